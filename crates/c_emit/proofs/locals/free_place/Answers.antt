use Rattle.std.proofs.Common.{◌≡◌, ◌<◌, true, false, length, rules}
use Rattle.std.specs.Prelude.{slice_index}
use Rattle.c_emit.proofs.Placing.{put_same, put_new, put_rises}
use Rattle.c_emit.proofs.locals.free_place.Goals as goal

no_true : false ≡ true → ⊥
no_true e = cc

pub returns-then-stands_at : goal.returns-then-stands_at
returns-then-stands_at c =
    let there : (c.place-at.result < length c.args.numbers.now) × (slice_index c.args.numbers.now c.place-at.result ≡ c.args.n) = search rules in
    put_same c.args.numbers.now c.args.n c.place-at.result c.place-at.ensures there.0 there.1

pub returns-else-stands_at : goal.returns-else-stands_at
returns-else-stands_at c =
    let other : c.place-at.result < length c.args.numbers.now → slice_index c.args.numbers.now c.place-at.result ≡ c.args.n → ⊥ = λ l e. no_true (rw c.if-stands_at.false at (c.stands_at.ensures.1 (l, e))) in
    record {
      within = c.place-at.ensures.within;
      puts = put_new c.args.numbers.now c.args.n c.place-at.result c.place-at.ensures other;
      ascending = put_rises c.args.numbers.now c.args.n c.place-at.result c.requires c.place-at.ensures other;
    }
