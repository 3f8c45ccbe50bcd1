use Rattle.std.proofs.Common.{inl, rules, ap, ◌∙◌}
use Rattle.joint_saved.specs.Saved.{is_sound}
use Rattle.joint_saved.proofs.Understood.{joint_is, no_memory, unsound}
use Rattle.joint_saved.proofs.loading.joint_of.Goals as goal

pub returns-then-not-is_sound-clause-refused : goal.returns-then-not-is_sound-clause-refused
returns-then-not-is_sound-clause-refused c =
    inl (unsound c.args.bytes.now c.args.mcu c.args.link c.requires.processor c.requires.link
    (c.is_sound.ensures c.args.mcu ∙ c.if-not-is_sound.true))

pub returns-in_err-bios-clause-refused : goal.returns-in_err-bios-clause-refused
returns-in_err-bios-clause-refused c =
    no_memory c.args.bytes.now c.args.mcu c.args.link c.from_residual.result c.requires.processor c.requires.link
    (c.is_sound.ensures c.args.mcu ∙ c.if-not-is_sound.false) (search rules)

pub sound-requires : goal.sound-requires
sound-requires c =
    record { fit = ap is_sound c.machine.ensures ∙ c.is_sound.ensures c.args.mcu ∙ c.if-not-is_sound.false }

pub returns-clause-joint : goal.returns-clause-joint
returns-clause-joint c =
    joint_is c.args.bytes.now c.args.mcu c.args.link c.sound.result c.requires.processor c.requires.link
    (c.is_sound.ensures c.args.mcu ∙ c.if-not-is_sound.false) (c.sound.ensures ∙ c.machine.ensures)
