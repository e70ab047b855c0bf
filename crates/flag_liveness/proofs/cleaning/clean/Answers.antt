use Rattle.std.proofs.Common.{sym, subst}
use Rattle.micro_ir.specs.Rule.{IsGiven}
use Rattle.flow_passes.specs.Keeps.{Keeps}
use Rattle.flag_liveness.specs.Lives.{live_of}
use Rattle.flag_liveness.specs.Read.{FlagsAreRead}
use Rattle.flag_liveness.proofs.Keeping.{cleaning_keeps}
use Rattle.flag_liveness.proofs.Reasons.{flags_are_read}
use Rattle.flag_liveness.proofs.cleaning.clean.Goals as goal

pub returns : goal.returns
returns c =
    let p = cleaning_keeps c.args.f (live_of c.in_ok-live.live) c.requires c.in_ok-live.ensures.closed in
    record {
      given = subst IsGiven (sym c.in_ok-made.ensures) p.0;
      keeps = subst (Keeps c.args.f) (sym c.in_ok-made.ensures) p.1;
      read = subst FlagsAreRead (sym c.in_ok-made.ensures) (flags_are_read c.args.f (live_of c.in_ok-live.live) c.requires c.in_ok-live.ensures.reasons);
    }
