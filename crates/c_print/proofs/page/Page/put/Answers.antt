use Rattle.std.proofs.Common.{ap, sym, ◌∙◌, arith}
use Rattle.c_print.specs.contracts.page.Page.{the_view}
use Rattle.c_print.proofs.Shows.{put_kept, put_counted}
use Rattle.c_print.proofs.page.Page.put.Goals as goal
use Rattle.c_print.proofs.page.Page.put.Goals.{in-Some, in_default}

pub returns : goal.returns
returns c = elim c.match-self.branch [
  | in-Some w ↦
      let was = ap (λ t. the_view (record c.self.inside { text = t })) (sym w.in-Some.is) ∙ c.self.view_is in
      ap the_view w.self-inside-is
      ∙ put_kept c.self.inside.count _ _ w.in-Some.text.items _ _ _ (omega arith) (omega arith) c.saturating_add-self-inside.ensures w.keep.ensures.items was
  | in_default w ↦
      let was = ap (λ t. the_view (record c.self.inside { text = t })) (sym w.in_default.is) ∙ c.self.view_is in
      ap the_view w.self-inside-is
      ∙ ap (λ t. the_view (record { count = c.saturating_add-self-inside.result; room = c.self.inside.room; text = t })) w.in_default.is
      ∙ put_counted c.self.inside.count _ _ c.args.piece.now _ (omega arith) c.saturating_add-self-inside.ensures was
]
