-- The state behind a block is written whole, and who goes on from it tells and seats what the whole stream does.
use Rattle.std.proofs.Common.{◌≡◌, ℕ, Bool, false, List, [], ◌∷◌, ◌++◌, length, flat_map, Option, Some, None, Ok, Err, refl, sym, ◌∙◌, ap, subst, append_assoc, true≢false}
use Rattle.std.proofs.lemmas.List.{append_cancel_right}
use Rattle.scale_wire.specs.Form.{IsWire}
use Rattle.block_wire.specs.declared.block.Block.{Block}
use Rattle.block_wire.specs.Calls.{block_form}
use Rattle.stake_ledger.specs.Ledger.{totals_of}
use Rattle.state_rules.specs.declared.state.State.{State}
use Rattle.state_checkpoint.specs.Layout.{state_form}
use Rattle.block_receipts.specs.declared.line.Line.{Line}
use Rattle.npos_runtime.specs.declared.chain.Chain.{Chain}
use Rattle.npos_runtime.specs.declared.state_fault.StateFault.{StateFault}
use Rattle.npos_runtime.specs.Kept.State.{kept}
use Rattle.npos_runtime.specs.Kept.Chain.{chain_of}
use Rattle.npos_runtime.specs.Kept.Laws.{SameKeptLaw}
use Rattle.npos_runtime.specs.Rules.Outcome.{Election}
use Rattle.npos_runtime.specs.Kept.Restoring.{state_fault}
use Rattle.npos_runtime.specs.Kept.Savable.{IsSavable, SavableStartLaw, SavableStepLaw, SavedStateLaw, RestoredStateLaw}
use Rattle.npos_runtime.specs.Kept.Soundness.{AreNext}
use Rattle.npos_runtime.specs.Step.{step}
use Rattle.npos_runtime.proofs.Kept.StateLemmas.{kept_alike}
use Rattle.npos_runtime.proofs.Rules.LiveLemmas.{due_step}
use Rattle.run_edges.specs.Replay.{Machine, Spot, turn, behind, IsTurn, Passes, Reaches, Starts, IsEnd, Stops, Refused, OtherNumber}
use Rattle.run_edges.specs.Replay.{Followed, Ended, all_seated, Outcome, IsReplay, BadGenesis, FaultyGenesis, Replayed}
use Rattle.npos_cli.specs.Chain.{npos_machine, line_text, end_line}
use Rattle.run_edges.specs.Streams.{IsStream}
use Rattle.npos_cli.specs.Checkpoints.{checkpoint_of, checkpoint_machine, state_line, resumed, resume_machine, ComesTo, WritesCheckpoints, GoesOnFromCheckpoints, StartsWithCheckpoints}
use Rattle.npos_cli.specs.Resumable.{StaysWhole, GoesOnWhole, block_bytes, EachGoesOn}
use Rattle.run_edges.proofs.ReplayLaws.{one_turn, one_start, stop_ends}
use Rattle.npos_cli.proofs.ChainLaws.{genesis_laws, turn_laws}
use Rattle.npos_cli.proofs.BookLaws.{begun}

-- ## The way of any machine

module _ {G B S E : Type 0} (m : Machine G B S E) where
  -- what blocks seat, and then others
  seated_join : (first more : List B) (p q : Spot S) (text : List ℕ) → Passes m first p q text
      → all_seated m p.state (first ++ more) ≡ all_seated m p.state first ++ all_seated m q.state more
  seated_join [] more p q text passes = ap (λ (s : Spot S). all_seated m s.state more) (sym passes.0)
  seated_join (b ∷ first) more p q text passes =
      ap (λ later. m.seats p.state b ++ later) (seated_join first more (behind m p b passes.0) q passes.2 passes.3)
      ∙ sym (append_assoc (m.seats p.state b) (all_seated m (m.after p.state b) first) (all_seated m q.state more))

  -- a replay that ends without a fault ends behind the None
  pub ends_well : (q : Spot S) (line : List ℕ) (faulty : Bool) → faulty ≡ false → Stops m q line faulty
      → (q.rest ≡ (turn m).spelling None) × (line ≡ m.ending q.state)
  ends_well q line faulty sound (Refused at why bad line_is faulty_is) = absurd (true≢false (sym faulty_is ∙ sound))
  ends_well q line faulty sound (OtherNumber b rest in_range whole not_due line_is faulty_is) = absurd (true≢false (sym faulty_is ∙ sound))
  ends_well q line faulty sound (Followed rest whole more line_is faulty_is) = absurd (true≢false (sym faulty_is ∙ sound))
  ends_well q line faulty sound (Ended whole line_is faulty_is) = (whole, line_is)

module _ {G B S E : Type 0} (m : Machine G B S E) (start_laws : IsWire m.genesis) (item_laws : IsWire (turn m)) where
  -- the rest of the way to an end, from a place behind the first blocks of it
  record RestOfWay (first all : List B) (q r : Spot S) (text other : List ℕ) : Type 0 where
    more : List B
    told : List ℕ
    passes : Passes m more q r told
    blocks_are : all ≡ first ++ more
    text_is : other ≡ text ++ told

  rest_of_way : (first all : List B) (p q r : Spot S) (text other : List ℕ) → Passes m first p q text → Passes m all p r other → IsEnd m r
      → RestOfWay first all q r text other
  rest_of_way [] all p q r text other one two ends = record {
    more = all;
    told = other;
    passes = subst (λ (s : Spot S). Passes m all s r other) (sym one.0) two;
    blocks_are = refl;
    text_is = ap (λ front. front ++ other) (sym one.1);
  }
  rest_of_way (b ∷ first) [] p q r text other one two ends =
      absurd (ends b one.0 (subst (λ (s : Spot S). IsTurn m s b one.0) (sym two.0) one.1))
  rest_of_way (b ∷ first) (c ∷ all) p q r text other one two ends =
      let same = one_turn m start_laws item_laws p b c one.0 two.0 one.1 two.1 in
      let there : behind m p c two.0 ≡ behind m p b one.0 = λ i. behind m p (sym same.0 i) (sym same.1 i) in
      let on = rest_of_way first all (behind m p b one.0) q r one.2 two.2 one.3 (subst (λ (s : Spot S). Passes m all s r two.2) there two.3) ends in
      let told : m.lines p.state c ++ two.2 ≡ m.lines p.state b ++ (one.2 ++ on.told) = λ i. m.lines p.state (sym same.0 i) ++ on.text_is i in
      record {
        more = on.more;
        told = on.told;
        passes = on.passes;
        blocks_are = λ i. sym same.0 i ∷ on.blocks_are i;
        text_is = two.4 ∙ (told ∙ (sym (append_assoc (m.lines p.state b) one.2 on.told) ∙ ap (λ front. front ++ on.told) (sym one.4)));
      }

-- ## Where the stream is cut

-- other bytes follow
abbrev followed_by : Spot Chain → List ℕ → Spot Chain
followed_by p rest = record { at = p.at; state = p.state; rest = rest }

pub bytes_taken : (blocks : List Block) (p q : Spot Chain) (text : List ℕ) → Passes npos_machine blocks p q text
    → p.rest ≡ block_bytes blocks ++ q.rest
bytes_taken [] p q text passes = ap (λ (s : Spot Chain). s.rest) (sym passes.0)
bytes_taken (block ∷ blocks) p q text passes =
    let front : List ℕ = (turn npos_machine).spelling (Some block) in
    passes.1.whole
    ∙ (ap (λ back. front ++ back) (bytes_taken blocks (behind npos_machine p block passes.0) q passes.2 passes.3)
    ∙ sym (append_assoc front (block_bytes blocks) q.rest))

-- the same blocks lead on where nothing is told of them, whatever bytes follow
untold : (back : List ℕ) (blocks : List Block) (p q : Spot Chain) (text : List ℕ) → Passes npos_machine blocks p q text
    → Passes checkpoint_machine blocks (followed_by p (block_bytes blocks ++ back)) (followed_by q back) []
untold back [] p q text passes = (ap (λ (s : Spot Chain). followed_by s back) passes.0, refl)
untold back (block ∷ blocks) p q text passes = (
  block_bytes blocks ++ back,
  record {
    in_range = passes.1.in_range;
    numbered = passes.1.numbered;
    whole = append_assoc ((turn npos_machine).spelling (Some block)) (block_bytes blocks) back;
  },
  [],
  untold back blocks (behind npos_machine p block passes.0) q passes.2 passes.3,
  refl,
)

-- the genesis and the blocks before a cut, and then other bytes
untold_start : (bytes back : List ℕ) (start : Spot Chain) (blocks : List Block) (front : List ℕ) (starts : Starts npos_machine bytes start)
    → front ≡ npos_machine.genesis.spelling starts.genesis ++ block_bytes blocks
    → Starts checkpoint_machine (front ++ back) (followed_by start (block_bytes blocks ++ back))
untold_start bytes back start blocks front starts is = record {
  genesis = starts.genesis;
  in_range = starts.in_range;
  state_is = starts.state_is;
  whole = ap (λ bs. bs ++ back) is ∙ append_assoc (npos_machine.genesis.spelling starts.genesis) (block_bytes blocks) back;
  at_is = starts.at_is;
}

-- all bytes before a place are those of the genesis and of the blocks
front_is : (bytes front text : List ℕ) (place : Spot Chain) (comes : ComesTo bytes front text place)
    → front ≡ npos_machine.genesis.spelling comes.starts.genesis ++ block_bytes comes.reaches.blocks
front_is bytes front text place comes =
    let first : List ℕ = npos_machine.genesis.spelling comes.starts.genesis in
    let taken : List ℕ = block_bytes comes.reaches.blocks in
    append_cancel_right front (first ++ taken) place.rest
    (sym comes.cut
    ∙ (comes.starts.whole
    ∙ (ap (λ rest. first ++ rest) (bytes_taken comes.reaches.blocks comes.start place text comes.reaches.passes)
    ∙ sym (append_assoc first taken place.rest))))

pub writes_checkpoints : (bytes : List ℕ) → WritesCheckpoints bytes
writes_checkpoints bytes front text place comes =
    let blocks : List Block = comes.reaches.blocks in
    let none : List ℕ = (turn npos_machine).spelling None in
    Replayed (followed_by comes.start (block_bytes blocks ++ none)) (followed_by place none) [] (checkpoint_of place.state) false
    (untold_start bytes none comes.start blocks front comes.starts (front_is bytes front text place comes))
    (record { blocks = blocks; passes = untold none blocks comes.start place text comes.reaches.passes }) (Ended refl refl refl)
    refl

pub stays_whole : (bytes : List ℕ) → StaysWhole bytes
stays_whole bytes stream =
    let blocks : List Block = stream.reaches.blocks in
    let back : List ℕ = stream.place.rest in
    let front : List ℕ = npos_machine.genesis.spelling stream.starts.genesis ++ block_bytes blocks in
    let whole : bytes ≡ front ++ back =
    stream.starts.whole
    ∙ (ap (λ rest. npos_machine.genesis.spelling stream.starts.genesis ++ rest) (bytes_taken blocks stream.start stream.place stream.text stream.reaches.passes)
    ∙ sym (append_assoc (npos_machine.genesis.spelling stream.starts.genesis) (block_bytes blocks) back)) in
    record {
      start = followed_by stream.start (block_bytes blocks ++ back);
      place = stream.place;
      text = [];
      starts = subst (λ (bs : List ℕ). Starts checkpoint_machine bs (followed_by stream.start (block_bytes blocks ++ back))) (sym whole)
          (untold_start bytes back stream.start blocks front stream.starts refl);
      reaches = record { blocks = blocks; passes = untold back blocks stream.start stream.place stream.text stream.reaches.passes };
      ended = stream.ended;
    }

-- ## Going on

-- two chains that can be saved keep the same state
pub record AreTwins (one other : Chain) : Type 0 where
  pub one_savable : IsSavable one
  pub other_savable : IsSavable other
  pub same : kept one ≡ kept other

-- twins end with the same line
same_end : (one other : Chain) → AreTwins one other → npos_machine.ending one ≡ npos_machine.ending other
same_end one other twins =
    ap (λ (c : Chain). end_line (totals_of c.book)) (kept_alike one other twins.one_savable.told twins.other_savable.told twins.same)

-- the chain that goes on from the checkpoint of another, and the bytes that follow
abbrev pub first_place : Chain → List ℕ → Spot Chain
first_place chain rest = record { at = length (checkpoint_of chain); state = chain_of (kept chain); rest = rest }

-- a state whose chain it is has no fault
pub resumed_by : (state : State) (chain : Chain) (fault : Option StateFault) → state_fault state ≡ fault → resumed fault state ≡ Ok chain
    → (state_fault state ≡ None) × (chain_of state ≡ chain)
resumed_by state chain None sound is = (sound, cc)
resumed_by state chain (Some fault) faulty is = let e : Err (state_line fault) ≡ Ok chain = is in cc

module _ (saved : SavedStateLaw) (restored : RestoredStateLaw) where
  twin_of : (chain : Chain) → IsSavable chain → AreTwins chain (chain_of (kept chain))
  twin_of chain savable =
      let back = restored (kept chain) savable.fits (saved chain savable) in
      record { one_savable = savable; other_savable = back.0; same = sym back.1 }

  resumes : (chain : Chain) (rest : List ℕ) → IsSavable chain → Starts resume_machine (checkpoint_of chain ++ rest) (first_place chain rest)
  resumes chain rest savable = record {
    genesis = kept chain;
    in_range = savable.fits;
    state_is = ap (λ (fault : Option StateFault). resumed fault (kept chain)) (saved chain savable);
    whole = refl;
    at_is = refl;
  }

pub starts_with_checkpoint : RestoredStateLaw → (bytes : List ℕ) → StartsWithCheckpoints bytes
starts_with_checkpoint restored bytes start starts =
    let by = resumed_by starts.genesis start.state (state_fault starts.genesis) refl starts.state_is in
    let same : kept start.state ≡ starts.genesis = ap kept (sym by.1) ∙ (restored starts.genesis starts.in_range by.0).1 in
    starts.whole ∙ ap (λ (state : State). state_form.spelling state ++ start.rest) (sym same)

pub starts_savable : SavableStartLaw → (bytes : List ℕ) (start : Spot Chain) → Starts npos_machine bytes start → IsSavable start.state
starts_savable law bytes start starts =
    subst IsSavable (begun bytes start starts).1 (law starts.genesis starts.in_range (begun bytes start starts).0)

module _ (savable_step : SavableStepLaw) where
  pub savable_passes : (blocks : List Block) (p q : Spot Chain) (text : List ℕ) → Passes npos_machine blocks p q text → IsSavable p.state → IsSavable q.state
  savable_passes [] p q text passes savable = subst (λ (s : Spot Chain). IsSavable s.state) (sym passes.0) savable
  savable_passes (block ∷ blocks) p q text passes savable =
      savable_passes blocks (behind npos_machine p block passes.0) q passes.2 passes.3
      (savable_step p.state block savable passes.1.in_range passes.1.numbered)

  module _ (same_law : SameKeptLaw) where
    twins_step : (one other : Chain) (block : Block) → AreTwins one other → block_form.in_range block → block.number ≡ one.due
        → AreTwins (step one block).state (step other block).state
    twins_step one other block twins in_range due = record {
      one_savable = savable_step one block twins.one_savable in_range due;
      other_savable = savable_step other block twins.other_savable in_range (due ∙ ap (λ (state : State). state.due) twins.same);
      same = (same_law one other block twins.one_savable.told twins.other_savable.told twins.same).kept;
    }

    -- blocks lead a twin on as they do the other, wherever it stands in its input
    pub record LeadsTwin (blocks : List Block) (p q r : Spot Chain) (text : List ℕ) : Type 0 where
      pub place : Spot Chain
      pub passes : Passes resume_machine blocks r place text
      pub twins : AreTwins q.state place.state
      pub rest : place.rest ≡ q.rest
      pub seated : all_seated npos_machine p.state blocks ≡ all_seated resume_machine r.state blocks

    pub twin_passes : (blocks : List Block) (p q r : Spot Chain) (text : List ℕ) → Passes npos_machine blocks p q text → AreTwins p.state r.state
        → r.rest ≡ p.rest → LeadsTwin blocks p q r text
    twin_passes [] p q r text passes twins rest = record {
      place = r;
      passes = (refl, passes.1);
      twins = subst (λ (s : Spot Chain). AreTwins s.state r.state) (sym passes.0) twins;
      rest = rest ∙ ap (λ (s : Spot Chain). s.rest) (sym passes.0);
      seated = refl;
    }
    twin_passes (block ∷ blocks) p q r text passes twins rest =
        let alike = same_law p.state r.state block twins.one_savable.told twins.other_savable.told twins.same in
        let on =
        twin_passes blocks (behind npos_machine p block passes.0) q (behind resume_machine r block passes.0) passes.2 passes.3
        (twins_step p.state r.state block twins passes.1.in_range passes.1.numbered) refl in
        record {
          place = on.place;
          passes = (
            passes.0,
            record {
              in_range = passes.1.in_range;
              numbered = passes.1.numbered ∙ ap (λ (state : State). state.due) twins.same;
              whole = rest ∙ passes.1.whole;
            },
            passes.2,
            on.passes,
            passes.4 ∙ ap (λ (told : List Line). flat_map line_text told ++ passes.2) alike.told,
          );
          twins = on.twins;
          rest = on.rest;
          seated = λ i. alike.seated i ++ on.seated i;
        }

-- blocks that are due lead on from wherever their bytes stand
due_on : (blocks : List Block) (rest : List ℕ) (p : Spot Chain) → AreNext p.state.due blocks → p.rest ≡ block_bytes blocks ++ rest
    → (q : Spot Chain) × (text : List ℕ) × Passes resume_machine blocks p q text × (q.rest ≡ rest)
due_on [] rest p next whole = (p, [], (refl, refl), whole)
due_on (block ∷ blocks) rest p next whole =
    let behind_it : List ℕ = block_bytes blocks ++ rest in
    let on =
    due_on blocks rest (behind resume_machine p block behind_it) (subst (λ due. AreNext due blocks) (sym (due_step p.state block)) next.2) refl in (
      on.0,
      resume_machine.lines p.state block ++ on.1,
      (
        behind_it,
        record {
          in_range = next.0;
          numbered = next.1;
          whole = whole ∙ append_assoc ((turn npos_machine).spelling (Some block)) (block_bytes blocks) rest;
        },
        on.1,
        on.2,
        refl,
      ),
      on.3,
    )

pub each_goes_on : SavedStateLaw → RestoredStateLaw → EachGoesOn
each_goes_on saved restored chain blocks savable next =
    let rest : List ℕ = block_bytes blocks ++ (turn npos_machine).spelling None in
    let on = due_on blocks ((turn npos_machine).spelling None) (first_place chain rest) next refl in
    record {
      start = first_place chain rest;
      place = on.0;
      text = on.1;
      starts = resumes saved restored chain rest savable;
      reaches = record { blocks = blocks; passes = on.2 };
      ended = on.3;
    }

-- ## From a place in a stream

module _ (savable_start : SavableStartLaw) (savable_step : SavableStepLaw) (saved : SavedStateLaw) (restored : RestoredStateLaw) (same_law : SameKeptLaw)
    (bytes front text : List ℕ) (place : Spot Chain) (comes : ComesTo bytes front text place) where
  savable_there : IsSavable place.state
  savable_there =
      savable_passes savable_step comes.reaches.blocks comes.start place text comes.reaches.passes
      (starts_savable savable_start bytes comes.start comes.starts)

  abbrev first_there : Spot Chain
  first_there = first_place place.state place.rest

  starts_there : Starts resume_machine (checkpoint_of place.state ++ place.rest) first_there
  starts_there = resumes saved restored place.state place.rest savable_there

  leads_on : (more : List Block) (q : Spot Chain) (told : List ℕ) → Passes npos_machine more place q told
      → LeadsTwin savable_step same_law more place q first_there told
  leads_on more q told passes =
      twin_passes savable_step same_law more place q first_there told passes (twin_of saved restored place.state savable_there) refl

  same_start : (p : Spot Chain) → Starts npos_machine bytes p → p ≡ comes.start
  same_start p starts = one_start npos_machine genesis_laws turn_laws bytes p comes.start starts comes.starts

  way_on : (p q : Spot Chain) (other : List ℕ) → Starts npos_machine bytes p → (reaches : Reaches npos_machine p q other) → IsEnd npos_machine q
      → RestOfWay npos_machine genesis_laws turn_laws comes.reaches.blocks reaches.blocks place q text other
  way_on p q other starts reaches ends =
      rest_of_way npos_machine genesis_laws turn_laws comes.reaches.blocks reaches.blocks comes.start place q text other comes.reaches.passes
      (subst (λ (s : Spot Chain). Passes npos_machine reaches.blocks s q other) (same_start p starts) reaches.passes) ends

  whole_there : IsStream npos_machine bytes → IsStream resume_machine (checkpoint_of place.state ++ place.rest)
  whole_there stream =
      let end : Stops npos_machine stream.place (npos_machine.ending stream.place.state) false = Ended stream.ended refl refl in
      let way =
      way_on stream.start stream.place stream.text stream.starts stream.reaches
      (stop_ends npos_machine genesis_laws turn_laws stream.place (npos_machine.ending stream.place.state) false end) in
      let on = leads_on way.more stream.place way.told way.passes in
      record {
        start = first_there;
        place = on.place;
        text = way.told;
        starts = starts_there;
        reaches = record { blocks = way.more; passes = on.passes };
        ended = on.rest ∙ stream.ended;
      }

  -- what is written and seated behind the place is what whoever goes on from there writes and seats
  abbrev GoesOnLike : Outcome Chain Election → Type 0
  GoesOnLike whole = (more : Outcome Chain Election)
      × IsReplay resume_machine (checkpoint_of place.state ++ place.rest) more × (more.faulty ≡ false)
      × (whole.text ≡ text ++ more.text)
      × (whole.seated ≡ all_seated npos_machine comes.start.state comes.reaches.blocks ++ more.seated)

  goes_like : (whole : Outcome Chain Election) → IsReplay npos_machine bytes whole → whole.faulty ≡ false → GoesOnLike whole
  goes_like whole (BadGenesis at why bad o) sound =
      absurd (true≢false (sym (ap (λ (out : Outcome Chain Election). out.faulty) o) ∙ sound))
  goes_like whole (FaultyGenesis genesis rest line in_range spelled faulty o) sound =
      absurd (true≢false (sym (ap (λ (out : Outcome Chain Election). out.faulty) o) ∙ sound))
  goes_like whole (Replayed p q other line faulty starts reaches stops o) sound =
      let ends = ends_well npos_machine q line faulty (sym (ap (λ (out : Outcome Chain Election). out.faulty) o) ∙ sound) stops in
      let way = way_on p q other starts reaches (stop_ends npos_machine genesis_laws turn_laws q line faulty stops) in
      let on = leads_on way.more q way.told way.passes in
      let last : List ℕ = resume_machine.ending on.place.state in
      let same_line : line ≡ last = ends.1 ∙ same_end q.state on.place.state on.twins in
      let first_seated : List Election = all_seated npos_machine comes.start.state comes.reaches.blocks in (
        record {
          text = way.told ++ last;
          faulty = false;
          seated = all_seated resume_machine first_there.state way.more;
          last = Some on.place.state;
        },
        Replayed first_there on.place way.told last false starts_there (record { blocks = way.more; passes = on.passes })
            (Ended (on.rest ∙ ends.0) refl refl) refl,
        refl,
        ap (λ (out : Outcome Chain Election). out.text) o
            ∙ ((λ i. way.text_is i ++ same_line i) ∙ append_assoc text way.told last),
        ap (λ (out : Outcome Chain Election). out.seated) o
            ∙ ((λ i. all_seated npos_machine ((same_start p starts i).state) (way.blocks_are i))
            ∙ (seated_join npos_machine comes.reaches.blocks way.more comes.start place text comes.reaches.passes
            ∙ ap (λ later. first_seated ++ later) on.seated)),
      )

pub goes_on : SavableStartLaw → SavableStepLaw → SavedStateLaw → RestoredStateLaw → SameKeptLaw → (bytes : List ℕ) → GoesOnFromCheckpoints bytes
goes_on savable_start savable_step saved restored same_law bytes front text place whole comes =
    goes_like savable_start savable_step saved restored same_law bytes front text place comes whole

pub goes_on_whole : SavableStartLaw → SavableStepLaw → SavedStateLaw → RestoredStateLaw → SameKeptLaw → (bytes : List ℕ) → GoesOnWhole bytes
goes_on_whole savable_start savable_step saved restored same_law bytes front text place comes =
    whole_there savable_start savable_step saved restored same_law bytes front text place comes
