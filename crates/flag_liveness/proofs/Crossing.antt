-- The temporaries that some block reads before it sets them.
use Rattle.std.proofs.Common.{◌≡◌, inl, inr, ℕ, ◌+◌, ◌<◌, Bool, true, false, ◌&&◌, ◌||◌, List, length, get_or, Some, Option, refl, sym, ap, subst, ◌∙◌, arith}
use Rattle.std.proofs.lemmas.Bool.{cases_eq}
use Rattle.std.proofs.lemmas.Option.{slice_get_read}
use Rattle.std.specs.Prelude.{IsTrue, slice_get}
use Rattle.dream_words.specs.declared.machine.Name.TheVariants.{T}
use Rattle.micro_ir.specs.declared.flow.Block.{Block}
use Rattle.micro_ir.specs.Rule.{is_flow_target}
use Rattle.flag_liveness.specs.Across.{block_reads}

-- what is live with no temporary across blocks
pub only_live : (x g b : Bool) → (x || (g && false)) ≡ b → b ≡ true → x ≡ true
only_live true g b p q = refl
only_live false true b p q = p ∙ q
only_live false false b p q = p ∙ q

-- The temporaries that the first blocks read before they set them are in a set.
pub record Crossed (blocks : List Block) (count : ℕ) (across : ℕ → Bool) : Type 0 where
  pub of : (k : ℕ) (b : Block) → k < count → slice_get blocks k ≡ Some b → (i : ℕ) → IsTrue (is_flow_target (T i)) → IsTrue (block_reads b (T i)) → IsTrue (across i)

some_same : (x b : Block) (o : Option Block) → o ≡ Some x → o ≡ Some b → b ≡ x
some_same x b o p q = cc

pub crossed_more : (blocks : List Block) (count : ℕ) (b : Block) (old new : ℕ → Bool) → count < length blocks → b ≡ get_or blocks count b → Crossed blocks count old → ((i : ℕ) → IsTrue (old i) → IsTrue (new i))
    → ((i : ℕ) → IsTrue (is_flow_target (T i)) → IsTrue (block_reads b (T i)) → IsTrue (new i)) → Crossed blocks (count + 1) new
crossed_more blocks count b old new l e h keep add = record {
  of = λ k x m s i t r. elim (cases_eq k count) [
    | inl y ↦ add i t (subst (λ z. IsTrue (block_reads z (T i))) (sym (some_same x b (slice_get blocks count) (ap (slice_get blocks) (sym y) ∙ s) (slice_get_read blocks (length blocks) count b refl l e))) r)
    | inr y ↦ keep i (h.of k x (omega arith) s i t r)
  ];
}
