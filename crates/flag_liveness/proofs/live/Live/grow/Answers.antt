use Rattle.std.proofs.Common.{◌≡◌, get_or, set, length, refl, sym, ap, ◌∙◌, Some, rules}
use Rattle.std.specs.Prelude.{slice_get}
use Rattle.std.proofs.lemmas.List.{length-set, set-get_or}
use Rattle.std.proofs.lemmas.Option.{slice_get_read}
use Rattle.flag_liveness.proofs.Growing.{no_more, fewer_in}
use Rattle.flag_liveness.proofs.Reasons.{grows_by}
use Rattle.flag_liveness.proofs.live.Live.grow.Goals as goal

pub returns : goal.returns
returns c =
    let read : get_or c.args.self.now.rows.items c.args.k c.index_mut.result.now ≡ c.index_mut.result.now = first_of (cc, search rules, search (rules, c.index_mut.ensures.value), grind (c.index_mut.ensures.value)) in
    let at : slice_get c.args.self.now.rows.items c.args.k ≡ Some c.index_mut.result.now = slice_get_read c.args.self.now.rows.items (length c.args.self.now.rows.items) c.args.k c.index_mut.result.now refl c.requires.inside (sym read) in
    record {
      temps = refl;
      size = length-set c.args.self.now.rows.items c.args.k c.add-more.new.self;
      same = λ q. ap (λ x. set c.args.self.now.rows.items c.args.k x) (c.add-more.ensures.same q ∙ sym read) ∙ set-get_or c.args.self.now.rows.items c.args.k c.index_mut.result.now;
      fewer = λ q. fewer_in c.args.self.now.rows.items c.args.k c.index_mut.result.now c.add-more.new.self c.requires.inside read (c.add-more.ensures.fewer q);
      grows =
          grows_by c.args.self.now _ c.args.b.now c.args.k c.index_mut.result.now c.add-more.new.self c.in_ok-before.before c.requires.inside at refl c.in_ok-before.ensures c.add-more.ensures.each;
      closed = λ q. no_more c.args.self.now c.args.b.now c.args.k c.index_mut.result.now c.add-more.new.self c.in_ok-before.before at c.in_ok-before.ensures c.add-more.ensures.each (c.add-more.ensures.same q);
    }
