-- Rows that grow, whichever are looked at.
use Rattle.std.proofs.Common.{◌≡◌, ◌<◌, ◌≤◌, Bool, true, false, ◌||◌, List, length, refl, ◌∙◌, arith}
use Rattle.std.proofs.lemmas.Bool.{false≢true}
use Rattle.micro_ir.specs.declared.flow.Block.{Block}
use Rattle.flag_liveness.specs.declared.live.Live.{Live}
use Rattle.flag_liveness.specs.Lives.{live_of}
use Rattle.flag_liveness.specs.Settled.{unset_in}
use Rattle.flag_liveness.specs.Reasons.{HaveReasons}

-- Rows may have grown, one at least where it is told so, and each flag that is live has a reason still.
pub record HaveGrown (blocks : List Block) (old new : Live) (more : Bool) : Type 0 where
  pub size : length new.rows.items ≡ length blocks
  pub temps : new.temps ≡ old.temps
  pub less : unset_in new ≤ unset_in old
  pub fewer : more ≡ true → unset_in new < unset_in old
  pub reasons : HaveReasons blocks (live_of new)

-- no row was looked at
pub grown_so_far : (blocks : List Block) (l : Live) → length l.rows.items ≡ length blocks → HaveReasons blocks (live_of l) → HaveGrown blocks l l false
grown_so_far blocks l size reasons = record { size = size; temps = refl; less = omega arith; fewer = λ q. absurd (false≢true q); reasons = reasons }

-- rows grew, and then others
pub grown_twice : (blocks : List Block) (first old new : Live) (was grew : Bool) → HaveGrown blocks first old was → HaveGrown blocks old new grew → HaveGrown blocks first new (was || grew)
grown_twice blocks first old new true grew p q =
    let less : unset_in new ≤ unset_in old = q.less in
    let fewer : unset_in old < unset_in first = p.fewer refl in
    record { size = q.size; temps = q.temps ∙ p.temps; less = omega arith; fewer = λ r. omega arith; reasons = q.reasons }
grown_twice blocks first old new false grew p q =
    let less : unset_in old ≤ unset_in first = p.less in
    let more : unset_in new ≤ unset_in old = q.less in
    record {
      size = q.size;
      temps = q.temps ∙ p.temps;
      less = omega arith;
      fewer = λ r. let fewer : unset_in new < unset_in old = q.fewer r in omega arith;
      reasons = q.reasons;
    }
