-- What each kind of tree does.
use Rattle.std.proofs.Common.{◌≡◌, ℕ, zero, suc, false, [], ◌∷◌, Some, None, refl, sym, ap, ◌∙◌}
use Rattle.std.proofs.Math.Path.{fun_ext}
use Rattle.dream_words.specs.declared.machine.Name.TheVariants as name
use Rattle.dream_words.specs.declared.outcome.Outcome.{Outcome}
use Rattle.run_parts.specs.Parts.{Run, Ends, Goes, Past, skip, goes_on, seq, decide, turn, rounds, repeat, always}
use Rattle.run_parts.specs.World.{World}
use Rattle.c_syntax.specs.Run.{Part, Test}
use Rattle.cond_terms.specs.declared.term.Term.{Term-F, roll-Term}
use Rattle.cond_terms.proofs.Layers.{truth_layer}
use Rattle.guarded.specs.declared.tree.Tree.{Tree-F, roll-Tree}
use Rattle.guarded.specs.Run.{tree_does}
use Rattle.guarded.specs.Laws.{TreesMeanSo}
use Rattle.guarded.proofs.Layers.{does_layer}

-- parts that do the same in every number of turns from every world are equal
same : (a b : Part) → ((m : ℕ) (w : World) → a m w ≡ b m w) → a ≡ b
same a b h = fun_ext (λ m. fun_ext (λ w. h m w))

-- a loop whose first test is false
not_entered : (enter : Test) (body : Part) (m : ℕ) (w : World) → enter w ≡ Some false → repeat enter body always m w ≡ Ends (Past w) m
not_entered enter body zero w h = ap (λ o. decide o goes_on skip 0 w) h
not_entered enter body (suc m) w h = ap (λ o. decide o (turn body always (rounds m enter body always)) skip (suc m) w) h

-- an empty loop
idle : (m : ℕ) (w : World) → ◌≡◌ {A = Run World Outcome} (rounds m always skip always m w) (Goes w)
idle zero w = refl
idle (suc m) w = idle m w

pub trees_mean : TreesMeanSo
trees_mean = record {
  empty_is_skip = does_layer (Tree-F.Seq []);
  seq_is_seq = λ t ts. does_layer (Tree-F.Seq (t ∷ ts)) ∙ ap (seq (tree_does t)) (sym (does_layer (Tree-F.Seq ts)));
  if_true = λ t.
      does_layer (Tree-F.If (roll-Term Term-F.True) t None)
      ∙ same _ _ (λ m w. ap (λ b. decide (Some b) (tree_does t) skip m w) (truth_layer Term-F.True (λ v. w.names (name.B v))));
  if_false = λ t u.
      does_layer (Tree-F.If (roll-Term Term-F.False) t (Some u))
      ∙ same _ _ (λ m w. ap (λ b. decide (Some b) (tree_does t) (tree_does u) m w) (truth_layer Term-F.False (λ v. w.names (name.B v))));
  while_false = λ t m w.
      ap (λ (a : Part). a m w) (does_layer (Tree-F.While (roll-Term Term-F.False) t))
      ∙ not_entered _ (tree_does t) m w (ap (λ b. Some b) (truth_layer Term-F.False (λ v. w.names (name.B v))));
  break_leaves = λ m w.
      ap (λ (a : Part). a (suc m) w) (does_layer (Tree-F.Loop (roll-Tree Tree-F.Break)))
      ∙ ap (λ (a : Part). repeat always a always (suc m) w) (does_layer Tree-F.Break);
  empty_goes_on = λ m w.
      ap (λ (a : Part). a m w) (does_layer (Tree-F.Loop (roll-Tree (Tree-F.Seq []))))
      ∙ ap (λ (a : Part). repeat always a always m w) (does_layer (Tree-F.Seq []))
      ∙ idle m w;
}
