-- There is a straight tree exactly where the line from the entry on comes to an end.
use Rattle.std.proofs.Common.{◌≡◌, ℕ, zero, suc, ◌<◌, ◌≤◌, Bool, true, false, not, ◌||◌, nat_eq, eqb, if◌then◌else◌, List, [], ◌∷◌, length, Option, Some, None, refl, sym, ap, ◌∙◌, subst, arith}
use Rattle.std.specs.Prelude.{slice_get, IsSome, is_some}
use Rattle.std.specs.List.{list_any, IsDistinct, AllByRecursion}
use Rattle.std.proofs.lemmas.Map.Keys.{IsDistinct-cons}
use Rattle.std.proofs.lemmas.Map.Steps.{length-le_from_distinct_below}
use Rattle.run_parts.specs.Parts.{has}
use Rattle.c_syntax.specs.Formed.{are_distinct}
use Rattle.micro_ir.specs.declared.flow.Block.{Block}
use Rattle.micro_ir.proofs.Values.{both_true}
use Rattle.guarded.specs.declared.tree.Tree.{Tree}
use Rattle.regions.specs.declared.one_line.Way.{Way}
use Rattle.regions.specs.declared.one_line.Way.TheVariants.{On, Over, Splits}
use Rattle.regions.specs.Plain.{block_tree}
use Rattle.regions.specs.Straight.{way_at, with_rest, on_way, from_block, line, in_line, goes_on, way_after, StraightIsExact}
use Rattle.regions.proofs.Standing.{number_is}
use Rattle.regions.proofs.FlowWords.{and_true}
use Rattle.regions.proofs.Lines.{every_line}

-- ---- different numbers below another are no more than it

not_false : (b : Bool) → not b ≡ true → b ≡ false
not_false true h = absurd (let z : ⊥ = cc in z)
not_false false h = refl

apart_all : (xs : List ℕ) (x : ℕ) → has xs x ≡ false → AllByRecursion (λ y. eqb x y ≡ false) xs
apart_all [] x h = tt
apart_all (y ∷ ys) x h = (first (eqb x y) (has ys x) h, apart_all ys x (rest (eqb x y) (has ys x) h))
  where
    first : (b p : Bool) → (if b then true else p) ≡ false → b ≡ false
    first true p e = e
    first false p e = refl

    rest : (b p : Bool) → (if b then true else p) ≡ false → p ≡ false
    rest true p e = absurd (let z : ⊥ = cc in z)
    rest false p e = e

none_distinct : IsDistinct eqb []
unfolding IsDistinct
none_distinct = tt

all_distinct : (xs : List ℕ) → are_distinct xs ≡ true → IsDistinct eqb xs
all_distinct [] h = none_distinct
all_distinct (x ∷ xs) h =
    let p = both_true (not (has xs x)) (are_distinct xs) h in
    IsDistinct-cons eqb x xs (apart_all xs x (not_false (has xs x) p.0)) (all_distinct xs p.1)

any_is : (xs : List ℕ) (q : ℕ) → list_any (eqb q) xs ≡ has xs q
any_is [] q = refl
any_is (y ∷ ys) q = step (eqb q y) (list_any (eqb q) ys) (has ys q) (any_is ys q)
  where
    step : (b p r : Bool) → p ≡ r → (b || p) ≡ (if b then true else r)
    step true p r e = refl
    step false p r e = e

few : (xs : List ℕ) (n : ℕ) → are_distinct xs ≡ true → ((q : ℕ) → has xs q ≡ true → q < n) → length xs ≤ n
few xs n d h = length-le_from_distinct_below xs n (all_distinct xs d) (λ q e. h q (sym (any_is xs q) ∙ e))

-- ---- the numbers along a line

module _ (bs : List Block) where
  -- each number is that of the block that comes next, up to the last one
  abbrev IsTrail : List ℕ → Type 0
  IsTrail [] = ⊥
  IsTrail (v ∷ []) = way_at (slice_get bs v) ≡ Over
  IsTrail (v ∷ u ∷ us) = (way_at (slice_get bs v) ≡ On u) × IsTrail (u ∷ us)

  -- a line from a number on that comes to none twice
  record Simple (n : ℕ) : Type 0 where
    rest : List ℕ
    walks : IsTrail (n ∷ rest)
    distinct : are_distinct (n ∷ rest) ≡ true

  here_or : (n v : ℕ) (us : List ℕ) (b : Bool) → nat_eq n v ≡ b → IsTrail (v ∷ us) → are_distinct (v ∷ us) ≡ true → (if b then true else has us n) ≡ true
      → (has us n ≡ true → Simple n) → Simple n
  here_or n v us true e w d h k =
      let same : v ≡ n = sym (number_is n v e) in
      subst Simple same (record { rest = us; walks = w; distinct = d })
  here_or n v us false e w d h k = k h

  -- it may be begun at each of its numbers
  suffix : (n : ℕ) (us : List ℕ) → IsTrail us → are_distinct us ≡ true → has us n ≡ true → Simple n
  suffix n [] w d h = absurd w
  suffix n (v ∷ []) w d h = here_or n v [] (nat_eq n v) refl w d h (λ g. absurd (let z : ⊥ = cc in z))
  suffix n (v ∷ u ∷ us) w d h =
      here_or n v (u ∷ us) (nat_eq n v) refl w d h (λ g. suffix n (u ∷ us) w.1 (both_true (not (has (u ∷ us) v)) (are_distinct (u ∷ us)) d).1 g)

  -- a line that goes on at another one
  put_before : (n c : ℕ) (s : Simple c) (b : Bool) → has (c ∷ s.rest) n ≡ b → way_at (slice_get bs n) ≡ On c → Simple n
  put_before n c s true e w = suffix n (c ∷ s.rest) s.walks s.distinct e
  put_before n c s false e w =
      record { rest = c ∷ s.rest; walks = (w, s.walks); distinct = and_true (not (has (c ∷ s.rest) n)) (are_distinct (c ∷ s.rest)) (ap not e) s.distinct }

  by_way : (k n : ℕ) (w : Way) → way_at (slice_get bs n) ≡ w → goes_on w (way_after bs k) ≡ Over → ((c : ℕ) → way_after bs k c ≡ Over → Simple c) → Simple n
  by_way k n (On c) e h g = let s = g c h in put_before n c s (has (c ∷ s.rest) n) refl e
  by_way k n Over e h g = record { rest = []; walks = e; distinct = refl }
  by_way k n Splits e h g = absurd (let z : ⊥ = cc in z)

  simple : (k n : ℕ) → way_after bs k n ≡ Over → Simple n
  simple zero n h = absurd (let z : ⊥ = cc in z)
  simple (suc k) n h = by_way k n (way_at (slice_get bs n)) refl h (simple k)

  -- ---- each number has a block

  no_splits : (o : Option Block) (w : Way) → way_at o ≡ w → (w ≡ Splits → ⊥) → (o ≡ None → ⊥)
  no_splits o w e h n = h (sym e ∙ ap way_at n)

  inside : (cs : List Block) (i : ℕ) → (slice_get cs i ≡ None → ⊥) → i < length cs
  inside [] i h = absurd (h refl)
  inside (c ∷ cs) zero h = omega arith
  inside (c ∷ cs) (suc i) h = let l = inside cs i h in omega (arith, l)

  head_inside : (v : ℕ) (us : List ℕ) → IsTrail (v ∷ us) → v < length bs
  head_inside v [] w = inside bs v (no_splits (slice_get bs v) Over w (λ (e : Over ≡ Splits). let z : ⊥ = cc in z))
  head_inside v (u ∷ us) w = inside bs v (no_splits (slice_get bs v) (On u) w.0 (λ (e : On u ≡ Splits). let z : ⊥ = cc in z))

  one_of : (q v : ℕ) (p : Bool) (b : Bool) → nat_eq q v ≡ b → (if b then true else p) ≡ true → v < length bs → (p ≡ true → q < length bs) → q < length bs
  one_of q v p true e h l g = let i = number_is q v e in omega (arith, i, l)
  one_of q v p false e h l g = g h

  all_inside : (us : List ℕ) → IsTrail us → (q : ℕ) → has us q ≡ true → q < length bs
  all_inside [] w q h = absurd w
  all_inside (v ∷ []) w q h = one_of q v false (nat_eq q v) refl h (head_inside v [] w) (λ g. absurd (let z : ⊥ = cc in z))
  all_inside (v ∷ u ∷ us) w q h = one_of q v (has (u ∷ us) q) (nat_eq q v) refl h (head_inside v (u ∷ us) w) (all_inside (u ∷ us) w.1 q)

  -- ---- the line of a trail

  last_some : (o : Option Block) (next : ℕ → Option (List Tree)) → way_at o ≡ Over → IsSome (from_block o next)
  last_some None next e = absurd (let z : ⊥ = cc in z)
  last_some (Some b) next e = ap (λ w. is_some (on_way (block_tree b) w next)) e

  with_some : (t : Tree) (o : Option (List Tree)) → IsSome o → IsSome (with_rest t o)
  with_some t None h = absurd (let z : ⊥ = cc in z)
  with_some t (Some us) h = refl

  next_some : (o : Option Block) (c : ℕ) (next : ℕ → Option (List Tree)) → way_at o ≡ On c → IsSome (next c) → IsSome (from_block o next)
  next_some None c next e h = absurd (let z : ⊥ = cc in z)
  next_some (Some b) c next e h = ap (λ w. is_some (on_way (block_tree b) w next)) e ∙ with_some (block_tree b) (next c) h

  has_line : (us : List ℕ) (v k : ℕ) → IsTrail (v ∷ us) → length (v ∷ us) ≤ k → IsSome (line bs k v)
  has_line us v zero w l = absurd (omega (arith, l))
  has_line [] v (suc k) w l = last_some (slice_get bs v) (line bs k) w
  has_line (u ∷ us) v (suc k) w l = next_some (slice_get bs v) u (line bs k) w.0 (has_line us u k w.1 (omega (arith, l)))

  -- ---- both ways

  ends_some : (k n : ℕ) → way_after bs k n ≡ Over → IsSome (line bs (length bs) n)
  ends_some k n h =
      let s = simple k n h in
      has_line s.rest n (length bs) s.walks (few (n ∷ s.rest) (length bs) s.distinct (all_inside (n ∷ s.rest) s.walks))

  some_ends : (m n : ℕ) (ts : List Tree) → line bs m n ≡ Some ts → (k : ℕ) × (way_after bs k n ≡ Over)
  some_ends = every_line bs (λ n ts. (k : ℕ) × (way_after bs k n ≡ Over))
      (λ n b e w. (1, ap (λ v. goes_on v (way_after bs 0)) (ap way_at e ∙ w)))
      (λ n c b ts e w r. (suc r.0, ap (λ v. goes_on v (way_after bs r.0)) (ap way_at e ∙ w) ∙ r.1))

tree_some : (o : Option (List Tree)) → IsSome o → IsSome (in_line o)
tree_some None h = h
tree_some (Some ts) h = refl

line_some : (bs : List Block) (n : ℕ) (o : Option (List Tree)) → line bs (length bs) n ≡ o → IsSome (in_line o) → (k : ℕ) × (way_after bs k n ≡ Over)
line_some bs n None e h = absurd (let z : ⊥ = cc in z)
line_some bs n (Some ts) e h = some_ends bs (length bs) n ts e

pub exact : StraightIsExact
exact f = (
  line_some f.blocks f.entry (line f.blocks (length f.blocks) f.entry) refl,
  λ h. tree_some (line f.blocks (length f.blocks) f.entry) (ends_some f.blocks h.0 f.entry h.1),
)
