use Rattle.std.proofs.Common.{◌∙◌, sym}
use Rattle.std.specs.Ordering.{nat_cmp}
use Rattle.std.specs.BTreeSet as set
use Rattle.flag_liveness.proofs.Back.{passes}
use Rattle.flag_liveness.proofs.seen.Seen.pass.Goals as goal

pub returns-in_ok-go_back-clause-names : goal.returns-in_ok-go_back-clause-names
returns-in_ok-go_back-clause-names c = passes c.args.s.now (set.contains nat_cmp c.args.across.now) c.args.self.now c.go_back.new.self (sym c.is_unseen.ensures ∙ c.if-is_unseen.false) c.in_ok-go_back.ensures
