use Rattle.flag_liveness.proofs.Adding.{adds_one}
use Rattle.flag_liveness.proofs.seen.Seen.add_name.Goals as goal

pub returns : goal.returns
returns c = adds_one c.args.n c.args.self.now c.set.new.self c.in_ok-set.ensures
