-- The nodes that flows name, and which flows are checked.
use Rattle.std.proofs.Common.{rules, ◌≡◌, ℕ, zero, suc, ◌+◌, ◌≤◌, ◌∙◌, sym, ap, refl, arith, Bool, true, false, cond, not, ◌||◌, List, [], ◌∷◌, Option, Some, None, map, length, get_or, ltb, nat_le}
use Rattle.std.specs.Prelude.{slice_get, position, Contains}
use Rattle.std.specs.List.{list_any, position_or_len}
use Rattle.std.proofs.lemmas.Bool.{false≢true, leb-false, lt-leb, ltb-false}
use Rattle.std.proofs.lemmas.List.Elements.{Contains-get_or}
use Rattle.std.proofs.lemmas.List.Folds.{list_any_at, list_any_none}
use Rattle.micro_ir.specs.declared.flow.Case.{Case}
use Rattle.micro_ir.specs.declared.flow.Block.{Block}
use Rattle.micro_ir.specs.declared.flow.Flow.{Flow}
use Rattle.micro_ir.specs.Checked.{nodes_of, names_outside, bad_block, IsChecked}

-- a test of the cases' nodes
pub any_case : (p : ℕ → Bool) (cases : List Case) → list_any (λ c. p c.to) cases ≡ list_any p (map (λ c. c.to) cases)
any_case p [] = refl
any_case p (c ∷ cases) = ap (λ b. p c.to || b) (any_case p cases)

-- ---- a test that fails everywhere

not_true : (b : Bool) → (b ≡ true → ⊥) → b ≡ false
not_true true h = absurd (h refl)
not_true false h = refl

-- where a test passes at no element of a list, each element fails it
none_of : {A : Type 0} (p : A → Bool) (xs : List A) → list_any p xs ≡ false → (x : A) → Contains xs x → p x ≡ false
none_of p xs e x h = not_true (p x) (λ t. false≢true (sym e ∙ list_any_at p xs h.0 x h.1 (ap p h.2 ∙ t)))

-- and no element is the first that passes
none_first : {A : Type 0} (p : A → Bool) (xs : List A) → length xs ≤ position_or_len p xs → (i : ℕ) (x : A) → slice_get xs i ≡ Some x → p x ≡ false
none_first p [] h i x e = absurd (let z : ⊥ = cc in z)
none_first {A = A} p (y ∷ ys) h i x e = at (p y) refl h i e (none_first p ys)
  where
    at : (b : Bool) → p y ≡ b → suc (length ys) ≤ cond (not b) (1 + position_or_len p ys) 0 → (i : ℕ) → slice_get (y ∷ ys) i ≡ Some x → (length ys ≤ position_or_len p ys → (i : ℕ) (x : A) → slice_get ys i ≡ Some x → p x ≡ false) → p x ≡ false
    at true t h i e rest = absurd (omega (arith, h))
    at false t h zero e rest = let s : y ≡ x = cc in ap p (sym s) ∙ t
    at false t h (suc i) e rest = rest (omega (arith, h)) i x e

first_none : {A : Type 0} (p : A → Bool) (xs : List A) → ((i : ℕ) (x : A) → slice_get xs i ≡ Some x → p x ≡ false) → length xs ≤ position_or_len p xs
first_none p [] h = omega arith
first_none p (y ∷ ys) h = at (p y) (h 0 y refl) (first_none p ys (λ i. h (suc i)))
  where
    at : (b : Bool) → b ≡ false → length ys ≤ position_or_len p ys → suc (length ys) ≤ cond (not b) (1 + position_or_len p ys) 0
    at true t l = absurd (false≢true (sym t))
    at false t l = omega (arith, l)

-- ---- the block that is bad

-- where the entry is inside, the blocks decide
pub blocks_decide : (f : Flow) (count : ℕ) (r : Option ℕ) → count ≡ length f.blocks → nat_le count f.entry ≡ false → r ≡ position (λ b. names_outside count b.end) f.blocks → bad_block f ≡ r
blocks_decide f count r e inside h =
    ap (λ n. cond (nat_le n f.entry) (Some 0) (position (λ b. names_outside n b.end) f.blocks)) (sym e)
    ∙ ap (λ b. cond b (Some 0) (position (λ b. names_outside count b.end) f.blocks)) inside
    ∙ sym h

pub entry_decides : (f : Flow) (count : ℕ) → count ≡ length f.blocks → nat_le count f.entry ≡ true → bad_block f ≡ Some 0
entry_decides f count e outside =
    ap (λ b. cond b (Some 0) (position (λ b. names_outside (length f.blocks) b.end) f.blocks)) (ap (λ n. nat_le n f.entry) (sym e) ∙ outside)

-- where no block is bad, each named node is one of the flow's
pub none_bad : (f : Flow) → bad_block f ≡ None → IsChecked f
none_bad f e = at (nat_le (length f.blocks) f.entry) refl e
  where
    first : ℕ → Bool → Option ℕ
    first n b = cond b (Some n) None

    at : (b : Bool) → nat_le (length f.blocks) f.entry ≡ b → cond b (Some 0) (position (λ b. names_outside (length f.blocks) b.end) f.blocks) ≡ None → IsChecked f
    at true t e = absurd (let z : ⊥ = cc in z)
    at false t e = record {
      entry_inside = leb-false (length f.blocks) f.entry t;
      nodes_inside = λ n a b here named.
          leb-false (length f.blocks) a
          (none_of (λ k. nat_le (length f.blocks) k) (nodes_of b.end)
          (none_first (λ b. names_outside (length f.blocks) b.end) f.blocks (past (ltb (position_or_len (λ b. names_outside (length f.blocks) b.end) f.blocks) (length f.blocks)) refl e) n b here) a named);
    }
      where
        past : (b : Bool) → ltb (position_or_len (λ b. names_outside (length f.blocks) b.end) f.blocks) (length f.blocks) ≡ b → first (position_or_len (λ b. names_outside (length f.blocks) b.end) f.blocks) b ≡ None → length f.blocks ≤ position_or_len (λ b. names_outside (length f.blocks) b.end) f.blocks
        past true t e = absurd (let z : ⊥ = cc in z)
        past false t e = ltb-false (position_or_len (λ b. names_outside (length f.blocks) b.end) f.blocks) (length f.blocks) t

-- and the other way round
pub checked_none : (f : Flow) → IsChecked f → bad_block f ≡ None
checked_none f h =
    let p = λ (b : Block). names_outside (length f.blocks) b.end in
    let l : length f.blocks ≤ position_or_len (λ b. names_outside (length f.blocks) b.end) f.blocks = first_none (λ b. names_outside (length f.blocks) b.end) f.blocks (λ n b here. list_any_none (λ k. nat_le (length f.blocks) k) (nodes_of b.end) (λ k d l. lt-leb (length f.blocks) (get_or (nodes_of b.end) k d) (h.nodes_inside n (get_or (nodes_of b.end) k d) b here (Contains-get_or (nodes_of b.end) k d l)))) in
    blocks_decide f (length f.blocks) None refl (lt-leb (length f.blocks) f.entry h.entry_inside) (at _ _ l)
  where
    at : (k n : ℕ) → n ≤ k → None ≡ cond (ltb k n) (Some k) None
    at k n l = search (rules, arith, l)
