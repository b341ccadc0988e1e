use Rattle.state_checkpoint.proofs.roles.KindLayoutLayoutRoleKind.write.Goals as goal

pub write_targets-requires : goal.write_targets-requires
write_targets-requires c = rw c.in-Nominator.is at c.requires

pub write_fields-requires : goal.write_fields-requires
write_fields-requires c = rw c.in-Validator.is at c.requires

pub returns-in-Nominator : goal.returns-in-Nominator
returns-in-Nominator c = rw c.in-Nominator.is c.write_targets.ensures

pub returns-in-Validator : goal.returns-in-Validator
returns-in-Validator c = rw c.in-Validator.is c.write_fields.ensures
