-- The blocks of stretches, one stretch after another.
use Rattle.std.proofs.Common.{◌≡◌, ◌≢◌, ℕ, zero, suc, ◌+◌, ◌<◌, ◌≤◌, List, [], ◌∷◌, ◌++◌, length, get_or, take, drop, map, refl, sym, ap, ◌∙◌, subst, arith}
use Rattle.std.specs.Prelude.{Contains, All, AllPairs}
use Rattle.std.specs.List.{concat}
use Rattle.std.proofs.lemmas.List.Elements.{All-tail}
use Rattle.micro_ir.specs.declared.flow.End.{End as BlockEnd}
use Rattle.micro_ir.specs.declared.flow.Block.{Block}
use Rattle.micro_ir.specs.declared.flow.Flow.{Flow}
use Rattle.micro_ir.specs.Laws.{moved_end}
use Rattle.flow_stretches.specs.Ends.{straight}
use Rattle.flow_stretches.specs.Joined.{block_at, join_of, AreStretches, IsJoined}
use Rattle.flow_stretches.specs.Known.{joined_blocks, name_by}
use Rattle.flow_stretches.proofs.Taking.{JoinedUpTo, joined_more}

-- the block of a stretch, from its parts
pub join_by : (blocks : List Block) (name : ℕ → ℕ) (ns : List ℕ) (b : Block) (s e : BlockEnd) → b ≡ joined_blocks blocks ns → s ≡ straight b.end → e ≡ moved_end name s
    → record { at = b.at; stmts = b.stmts; end = e } ≡ join_of blocks name ns
join_by blocks name ns b s e is led moved =
    let end : e ≡ moved_end name (straight (joined_blocks blocks ns).end) = moved ∙ ap (moved_end name) (led ∙ ap (λ (c : Block). straight c.end) is) in
    ap (λ (c : Block). record { at = c.at; stmts = c.stmts; end = e }) is
    ∙ ap (λ d. record { at = (joined_blocks blocks ns).at; stmts = (joined_blocks blocks ns).stmts; end = d }) end

module _ {V : Type 0} (items : V → List ℕ) where
  -- lists have something where what holds them does
  pub some_vecs : (vs : List V) → All (λ (ns : List ℕ). 0 < length ns) (map items vs) → All (λ (v : V). 0 < length (items v)) vs
  some_vecs [] p k d h = absurd (let z : ⊥ = omega (arith, h) in z)
  some_vecs (v ∷ vs) p zero d h = p 0 (items d) (omega arith)
  some_vecs (v ∷ vs) p (suc k) d h = some_vecs vs (All-tail (λ (ns : List ℕ). 0 < length ns) (items v) (map items vs) p) k d (omega (arith, h))

  some_lists : (vs : List V) → All (λ (v : V). 0 < length (items v)) vs → All (λ (ns : List ℕ). 0 < length ns) (map items vs)
  some_lists [] p k d h = absurd (let z : ⊥ = omega (arith, h) in z)
  some_lists (v ∷ vs) p zero d h = p 0 v (omega arith)
  some_lists (v ∷ vs) p (suc k) d h = some_lists vs (All-tail (λ (u : V). 0 < length (items u)) v vs p) k d (omega (arith, h))

  -- the lists up to one, and those from it on
  parted : (vs : List V) (i : ℕ) (v : V) → i < length vs → v ≡ get_or vs i v → (take (suc i) (map items vs) ≡ take i (map items vs) ++ items v ∷ []) × (drop i (map items vs) ≡ items v ∷ drop (suc i) (map items vs))
  parted [] i v h e = absurd (let z : ⊥ = omega (arith, h) in z)
  parted (u ∷ vs) zero v h e = (ap (λ t. items t ∷ []) (sym e), ap (λ t. items t ∷ map items vs) (sym e))
  parted (u ∷ vs) (suc i) v h e = let r = parted vs i v (omega (arith, h)) e in (ap (λ l. items u ∷ l) r.0, r.1)

  whole : (vs : List V) (i : ℕ) → length vs ≤ i → take i (map items vs) ≡ map items vs
  whole [] zero h = refl
  whole [] (suc i) h = refl
  whole (v ∷ vs) zero h = absurd (let z : ⊥ = omega (arith, h) in z)
  whole (v ∷ vs) (suc i) h = ap (λ l. items v ∷ l) (whole vs i (omega (arith, h)))

  -- before the first one
  pub each_none : (blocks : List Block) (name : ℕ → ℕ) (vs : List V) (joined : List Block) → All (λ (v : V). 0 < length (items v)) vs → All (λ n. n < length blocks) (concat (map items vs))
      → AllPairs (λ a b. a ≢ b) (concat (map items vs)) → joined ≡ [] → JoinedUpTo blocks name [] (map items vs) joined blocks
  each_none blocks name vs joined some inside once is = record {
    count = refl;
    are = is;
    same = λ n c. refl;
    once = once;
    inside = λ n c. subst (λ m. m < length blocks) c.2 (inside c.0 n c.1);
    some = some_lists vs some;
  }

  -- at the next one
  pub each_at : (blocks : List Block) (name : ℕ → ℕ) (vs : List V) (i : ℕ) (v : V) (ns : List ℕ) (joined left : List Block) → i < length vs → v ≡ get_or vs i v → ns ≡ items v
      → JoinedUpTo blocks name (take i (map items vs)) (drop i (map items vs)) joined left → JoinedUpTo blocks name (take i (map items vs)) (ns ∷ drop (suc i) (map items vs)) joined left
  each_at blocks name vs i v ns joined left h e s up =
      subst (λ rest. JoinedUpTo blocks name (take i (map items vs)) rest joined left)
      ((parted vs i v h e).1 ∙ ap (λ l. l ∷ drop (suc i) (map items vs)) (sym s)) up

  -- after it
  pub each_more : (blocks : List Block) (name : ℕ → ℕ) (vs : List V) (i : ℕ) (v : V) (ns : List ℕ) (joined left new after : List Block) (b : Block) → i < length vs → v ≡ get_or vs i v → ns ≡ items v
      → new ≡ joined ++ b ∷ [] → length after ≡ length left → b ≡ join_of left name ns → ((n : ℕ) → (Contains ns n → ⊥) → block_at after n ≡ block_at left n)
      → JoinedUpTo blocks name (take i (map items vs)) (drop i (map items vs)) joined left → JoinedUpTo blocks name (take (i + 1) (map items vs)) (drop (i + 1) (map items vs)) new after
  each_more blocks name vs i v ns joined left new after b h e s pushed size is keeps up =
      let next : suc i ≡ i + 1 = omega arith in
      let done : take i (map items vs) ++ ns ∷ [] ≡ take (suc i) (map items vs) = ap (λ l. take i (map items vs) ++ l ∷ []) s ∙ sym (parted vs i v h e).0 in
      let more = joined_more blocks name (take i (map items vs)) (drop (suc i) (map items vs)) ns joined left (each_at blocks name vs i v ns joined left h e s up) b after size is keeps in
      subst (λ k. JoinedUpTo blocks name (take k (map items vs)) (drop k (map items vs)) new after) next
      (subst (λ d. JoinedUpTo blocks name d (drop (suc i) (map items vs)) new after) done
      (subst (λ j. JoinedUpTo blocks name (take i (map items vs) ++ ns ∷ []) (drop (suc i) (map items vs)) j after) (sym pushed) more))

  -- after the last one
  pub each_all : (blocks : List Block) (name : ℕ → ℕ) (vs : List V) (i : ℕ) (joined left : List Block) → length vs ≤ i → JoinedUpTo blocks name (take i (map items vs)) (drop i (map items vs)) joined left
      → joined ≡ map (join_of blocks name) (map items vs)
  each_all blocks name vs i joined left h up = up.are ∙ ap (map (join_of blocks name)) (whole vs i h)

-- ---- the flow

-- stretches of a flow, told of its blocks as a slice
pub are_by : (f : Flow) (bs : List Block) (stretches : List (List ℕ)) (name : ℕ → ℕ) → bs ≡ f.blocks → AreStretches (record { entry = f.entry; blocks = bs }) stretches name → AreStretches f stretches name
are_by f bs stretches name e are = subst (λ b. AreStretches (record { entry = f.entry; blocks = b }) stretches name) e are

-- a flow with their blocks is joined
pub joined_by : (f : Flow) (stretches lists : List (List ℕ)) (names ns : List ℕ) (entry : ℕ) (bs : List Block) → lists ≡ stretches → ns ≡ names → AreStretches f stretches (name_by names)
    → entry ≡ name_by names f.entry → bs ≡ map (join_of f.blocks (name_by ns)) lists → IsJoined f (record { entry = entry; blocks = bs })
joined_by f stretches lists names ns entry bs same named are first is = record {
  stretches = stretches;
  name = name_by names;
  are = are;
  entry = first;
  blocks = is ∙ ap (λ l. map (join_of f.blocks (name_by ns)) l) same ∙ ap (λ l. map (join_of f.blocks (name_by l)) stretches) named;
}

-- the same bound holds in lists that are the same
pub inside_by : (f : Flow) (stretches lists : List (List ℕ)) → lists ≡ stretches → All (λ n. n < length f.blocks) (concat stretches) → All (λ n. n < length f.blocks) (concat lists)
inside_by f stretches lists e h = subst (λ l. All (λ n. n < length f.blocks) (concat l)) (sym e) h
