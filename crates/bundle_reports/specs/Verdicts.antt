-- The lines that tell of an election: words, and then numbers in decimal behind a blank each.
use Rattle.std.specs.Prelude.{ℕ, List, [], ◌∷◌, ◌++◌, Option, Some, None, option_to_list, codes, decimal}
use Rattle.hex.specs.Hex.{encode_lower}
use Rattle.npos_base.specs.declared.figures.Score.{Score}
use Rattle.npos_base.specs.declared.limits.TheConstants.{MOST_TARGETS, MOST_VOTERS}
use Rattle.scale_wire.specs.Reason as reasons
use Rattle.election_snapshot.specs.declared.fault.SnapshotFault.{SnapshotFault}
use Rattle.election_snapshot.specs.declared.fault.SnapshotFault.TheVariants as faults
use Rattle.election_check.specs.declared.verdict.Verdict.{Verdict}
use Rattle.election_check.specs.declared.verdict.Verdict.TheVariants as verdicts
use Rattle.election_check.specs.Number.{verdict_number}
use Rattle.npos_base.specs.declared.account.AccountId.{AccountId}
use Rattle.bundle_reports.specs.declared.numbers.FaultNumbers.{FaultNumbers}
use Rattle.told_lines.specs.Texts.{newline, account_text, number_text, numbers_line}

abbrev pub score_numbers : Score → List ℕ
score_numbers score = score.minimal ∷ score.sum ∷ score.squares ∷ []

-- what a verdict tells besides its number
abbrev pub verdict_details : Verdict → List ℕ
verdict_details verdicts.Yes = []
verdict_details (verdicts.Undecodable at why) = at ∷ reasons.why_number why ∷ []
verdict_details (verdicts.NoVoter voter) = voter ∷ []
verdict_details (verdicts.NoTarget target) = target ∷ []
verdict_details (verdicts.VoterTwice voter) = voter ∷ []
verdict_details (verdicts.TargetTwice target) = target ∷ []
verdict_details (verdicts.NotNominated voter target) = voter ∷ target ∷ []
verdict_details (verdicts.BadShare voter) = voter ∷ []
verdict_details (verdicts.WrongSize found) = found ∷ []
verdict_details (verdicts.WrongScore actual) = score_numbers actual
verdict_details (verdicts.Outweighed target prescore) = target ∷ prescore ∷ []
verdict_details (verdicts.Overspent voter) = voter ∷ []

-- a verdict in numbers: its own, and what it tells besides
abbrev pub verdict_numbers : Verdict → List ℕ
verdict_numbers verdict = verdict_number verdict ∷ verdict_details verdict

abbrev pub verdict_line : Verdict → List ℕ
verdict_line verdict = numbers_line (codes "verdict") (verdict_numbers verdict)

-- a member of a committee, with its support
abbrev pub member_line : AccountId → ℕ → List ℕ
member_line who support = codes "member " ++ (account_text who ++ (number_text support ++ newline))

abbrev pub score_line : Score → List ℕ
score_line score = numbers_line (codes "score") (score_numbers score)

-- the bytes of a packed solution, each as two digits in hexadecimal, in lower case
abbrev pub solution_line : List ℕ → List ℕ
solution_line bytes = codes "solution " ++ (encode_lower bytes ++ newline)

-- a member to which no edge is kept as weights are packed, by its position
abbrev pub lost_line : ℕ → List ℕ
lost_line member = numbers_line (codes "lost") (member ∷ [])

-- The number of the fault and its detail: both counts where one is too small for the other, and
-- else the position of the account, the one that an account too many would have had, or the seats.
-- Want of memory has no line.
abbrev pub fault_numbers : SnapshotFault → List ℕ
fault_numbers (faults.Few targets seats) = 1 ∷ targets ∷ seats ∷ []
fault_numbers (faults.Poor total seats) = 2 ∷ total ∷ seats ∷ []
fault_numbers (faults.RepeatedTarget place) = 3 ∷ place ∷ []
fault_numbers (faults.RepeatedVoter place) = 4 ∷ place ∷ []
fault_numbers (faults.UnknownTarget place) = 5 ∷ place ∷ []
fault_numbers (faults.RepeatedVote place) = 6 ∷ place ∷ []
fault_numbers (faults.NoVotes place) = 7 ∷ place ∷ []
fault_numbers (faults.ZeroStake place) = 8 ∷ place ∷ []
fault_numbers faults.TooManyTargets = 9 ∷ MOST_TARGETS ∷ []
fault_numbers faults.TooManyVoters = 10 ∷ MOST_VOTERS ∷ []
fault_numbers (faults.TooManyVotes place) = 11 ∷ place ∷ []
fault_numbers (faults.TotalTooLarge place) = 12 ∷ place ∷ []
fault_numbers (faults.BadSeats seats) = 13 ∷ seats ∷ []
fault_numbers faults.NoMemory = []

-- the same as they are handed on
abbrev pub told_details : FaultNumbers → List ℕ
told_details numbers = numbers.detail ∷ option_to_list numbers.seats

abbrev pub told_numbers : Option FaultNumbers → List ℕ
told_numbers None = []
told_numbers (Some numbers) = numbers.number ∷ told_details numbers

abbrev pub snapshot_line : SnapshotFault → List ℕ
snapshot_line fault = numbers_line (codes "fault 0 snapshot") (fault_numbers fault)

-- at this place stands the tag of work that is nothing
abbrev pub no_solution_line : ℕ → List ℕ
no_solution_line at = codes "fault " ++ (decimal at ++ codes " nosolution\n")

-- a bundle has at most 16,777,216 bytes
abbrev pub long_line : List ℕ
long_line = codes "fault 16777216 long\n"
