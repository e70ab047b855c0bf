-- The blocks are those of the instruction.
use Rattle.std.proofs.Common.{◌≡◌, ◌<◌, ◌^◌, false, Some, sym, subst, ap, arith}
use Rattle.std.specs.Prelude.{not}
use Rattle.lift_parts.specs.Lifted.{AreBlocksOf}
use Rattle.lift_wide.specs.Wide.{is_wide, IsWideBlock}
use Rattle.lift.proofs.All.{blocks_are}
use Rattle.lift.proofs.lift.Goals as goal

pub returns-in_ok-with_test-in-Some : goal.returns-in_ok-with_test-in-Some
returns-in_ok-with_test-in-Some c = λ spelled.
    let i = c.args.i.now in
    let wide : IsWideBlock i c.args.at c.args.next (Some c.in-Some.b) = subst (IsWideBlock i c.args.at c.args.next) c.in-Some.is c.in_ok-b.ensures in
    subst (λ bs. AreBlocksOf i c.args.at c.args.next bs) (sym c.in_ok-with_test-in-Some.ensures) (wide.1 spelled)

pub returns-in_ok-from_array-in-None : goal.returns-in_ok-from_array-in-None
returns-in_ok-from_array-in-None c = λ spelled.
    let i = c.args.i.now in
    let small : c.args.next < 2 ^ 32 = omega arith in
    let none : is_wide i ≡ false = subst (IsWideBlock i c.args.at c.args.next) c.in-None.is c.in_ok-b.ensures in
    subst (λ bs. AreBlocksOf i c.args.at c.args.next bs) (sym c.in_ok-from_array-in-None.ensures.items)
    (blocks_are i c.args.at c.args.next c.in_ok-b-in-None.b small (ap not none) c.requires.leaves c.in_ok-b-in-None.ensures.words c.in_ok-b-in-None.ensures.block spelled)
