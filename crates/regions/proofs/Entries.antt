-- How many of the blocks that a flow enters are heads.
use Rattle.std.proofs.Common.{◌≡◌, ℕ, zero, suc, ◌+◌, ◌-◌, ◌<◌, ◌≤◌, Bool, true, false, cond, List, refl, sym, ap, ◌∙◌, zero-add, add_assoc, arith}
use Rattle.std.specs.Prelude.{slice_get}
use Rattle.run_parts.specs.Steps.{To, End, Nowhere}
use Rattle.run_parts.specs.World.{World}
use Rattle.micro_ir.specs.declared.flow.Block.{Block}
use Rattle.micro_ir.specs.Run.{Arrive, enter, onward, walk}

-- a count that goes on from where a block leads
abbrev pub count_on : Arrive → (ℕ → World → ℕ) → ℕ
count_on (To n w) f = f n w
count_on (End o) f = 0
count_on Nowhere f = 0

suc_plus : (j k : ℕ) → suc j + k ≡ suc (j + k)
suc_plus j k = omega arith

module _ (blocks : List Block) (head : ℕ → Bool) where
  -- how many of the first k blocks that are entered are heads
  abbrev pub entries : ℕ → ℕ → World → ℕ
  entries zero n w = 0
  entries (suc k) n w = cond (head n) 1 0 + count_on (enter (slice_get blocks n) w) (entries k)

  count_twice : (j k : ℕ) → ((n : ℕ) (w : World) → entries (j + k) n w ≡ entries j n w + count_on (walk blocks j n w) (entries k)) → (a : Arrive)
      → count_on a (entries (j + k)) ≡ count_on a (entries j) + count_on (onward a (walk blocks j)) (entries k)
  count_twice j k h (To n w) = h n w
  count_twice j k h (End o) = refl
  count_twice j k h Nowhere = refl

  -- the heads among the first j blocks, and then among the next k
  pub entries_more : (j k n : ℕ) (w : World) → entries (j + k) n w ≡ entries j n w + count_on (walk blocks j n w) (entries k)
  entries_more zero k n w = ap (λ i. entries i n w) (zero-add k) ∙ sym (zero-add _)
  entries_more (suc j) k n w =
      ap (λ i. entries i n w) (suc_plus j k)
      ∙ ap (λ i. cond (head n) 1 0 + i) (count_twice j k (λ n w. entries_more j k n w) (enter (slice_get blocks n) w))
      ∙ sym (add_assoc (cond (head n) 1 0) _ _)

  -- one more block, which is a head
  pub one_more_head : (j k n : ℕ) (w : World) (m : ℕ) (u : World) → walk blocks j n w ≡ To m u → head m ≡ true → j < k → entries j n w + 1 ≤ entries k n w
  one_more_head j k n w m u h at lt =
      let i = k - j - 1 in
      let eq : j + suc i ≡ k = omega arith in
      let e = ap (λ i. entries i n w) (sym eq) ∙ entries_more j (suc i) n w ∙ ap (λ a. entries j n w + count_on a (entries (suc i))) h ∙ ap (λ b. entries j n w + (cond b 1 0 + count_on (enter (slice_get blocks m) u) (entries i))) at in
      omega (arith, e)

  count_at_most : (k : ℕ) → ((n : ℕ) (w : World) → entries k n w ≤ k) → (a : Arrive) → count_on a (entries k) ≤ k
  count_at_most k h (To n w) = h n w
  count_at_most k h (End o) = omega arith
  count_at_most k h Nowhere = omega arith

  one_at_most : (b : Bool) (x k : ℕ) → x ≤ k → cond b 1 0 + x ≤ suc k
  one_at_most true x k h = omega arith
  one_at_most false x k h = omega arith

  -- no more heads than blocks
  pub heads_at_most : (k n : ℕ) (w : World) → entries k n w ≤ k
  heads_at_most zero n w = omega arith
  heads_at_most (suc k) n w = one_at_most (head n) _ k (count_at_most k (heads_at_most k) (enter (slice_get blocks n) w))
