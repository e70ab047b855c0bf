-- Blocks that are taken from among others, one after another.
use Rattle.std.proofs.Common.{◌≡◌, ◌≢◌, ℕ, zero, suc, ◌+◌, ◌<◌, ◌≤◌, List, [], ◌∷◌, ◌++◌, length, get_or, set, take, map, refl, sym, ap, ◌∙◌, subst, arith, append-nil}
use Rattle.std.specs.Prelude.{Contains, All, AllPairs, slice_index_or}
use Rattle.std.specs.List.{flat_map, concat}
use Rattle.std.proofs.lemmas.List.{get_or-set_other, length-set, take_more}
use Rattle.std.proofs.lemmas.List.Concat.{flat_map-append}
use Rattle.std.proofs.lemmas.List.Elements.{Contains-append_left, Contains-append_right, Contains-push, Contains-get_or}
use Rattle.micro_ir.specs.declared.flow.Stmt.{Stmt}
use Rattle.micro_ir.specs.declared.flow.Block.{Block}
use Rattle.flow_stretches.specs.Joined.{empty_block, block_at, last_from, join_of}
use Rattle.flow_stretches.specs.Known.{then_block, joined_blocks}
use Rattle.std.proofs.lemmas.List.Elements.{All-head, All-tail}
use Rattle.flow_stretches.proofs.Marking.{once_left, once_right, once_apart}
use Rattle.flow_stretches.proofs.Members.{contains_here, contains_later}

-- the blocks of some nodes were taken, and joined
pub record IsTaken (old : List Block) (nodes : List ℕ) (joined : Block) (left : List Block) : Type 0 where
  pub count : length left ≡ length old
  pub are : joined ≡ joined_blocks old nodes
  pub same : (n : ℕ) → (Contains nodes n → ⊥) → block_at left n ≡ block_at old n

last_pushed : (m : ℕ) (ms : List ℕ) (n : ℕ) → last_from m (ms ++ n ∷ []) ≡ n
last_pushed m [] n = refl
last_pushed m (k ∷ ms) n = last_pushed k ms n

one_node : (blocks : List Block) (n : ℕ) → joined_blocks blocks (n ∷ []) ≡ block_at blocks n
one_node blocks n = ap (λ ss. record { at = (block_at blocks n).at; stmts = ss; end = (block_at blocks n).end }) (append-nil (block_at blocks n).stmts)

-- one more block is the one after
joined_pushed : (blocks : List Block) (m : ℕ) (ms : List ℕ) (n : ℕ) → joined_blocks blocks (m ∷ ms ++ n ∷ []) ≡ then_block (joined_blocks blocks (m ∷ ms)) (block_at blocks n)
joined_pushed blocks m ms n =
    let stmts_at : ℕ → List Stmt = λ k. (block_at blocks k).stmts in
    let stmts : flat_map stmts_at (m ∷ ms ++ n ∷ []) ≡ flat_map stmts_at (m ∷ ms) ++ stmts_at n =
    flat_map-append stmts_at (m ∷ ms) (n ∷ []) ∙ ap (λ ss. flat_map stmts_at (m ∷ ms) ++ ss) (append-nil (stmts_at n)) in
    ap (λ ss. record { at = (block_at blocks m).at; stmts = ss; end = (block_at blocks (last_from m (ms ++ n ∷ []))).end }) stmts
    ∙ ap (λ k. record { at = (block_at blocks m).at; stmts = flat_map stmts_at (m ∷ ms) ++ stmts_at n; end = (block_at blocks k).end }) (last_pushed m ms n)

pushed_nodes : (blocks : List Block) (ns : List ℕ) (n : ℕ) → 0 < length ns → joined_blocks blocks (ns ++ n ∷ []) ≡ then_block (joined_blocks blocks ns) (block_at blocks n)
pushed_nodes blocks [] n h = absurd (let z : ⊥ = omega (arith, h) in z)
pushed_nodes blocks (m ∷ ms) n h = joined_pushed blocks m ms n

-- the first one
pub taken_first : (old : List Block) (n : ℕ) (nodes : List ℕ) → take 1 nodes ≡ n ∷ [] → IsTaken old (take 1 nodes) (block_at old n) (set old n empty_block)
taken_first old n nodes e = subst (λ ns. IsTaken old ns (block_at old n) (set old n empty_block)) (sym e) (record {
  count = length-set old n empty_block;
  are = sym (one_node old n);
  same = λ m none. get_or-set_other old n m empty_block empty_block (λ s. none (subst (Contains (n ∷ [])) (sym s) (contains_here n [])));
})

-- a node that stands later isn't among the first ones
later_apart : (nodes : List ℕ) (i : ℕ) → AllPairs (λ a b. a ≢ b) nodes → i < length nodes → Contains (take i nodes) (get_or nodes i 0) → ⊥
later_apart nodes i once h c =
    let size : length (take i nodes) ≡ i = length_front nodes i (omega (arith, h)) in
    let l : c.0 < i = omega (arith, c.1, size) in
    once c.0 i 0 l h (sym (front_same nodes i c.0 0 l (omega (arith, h))) ∙ places (take i nodes) c.0 (get_or nodes i 0) c.1 c.2)
  where
    length_front : (xs : List ℕ) (k : ℕ) → k ≤ length xs → length (take k xs) ≡ k
    length_front xs zero g = refl
    length_front [] (suc k) g = absurd (let z : ⊥ = omega (arith, g) in z)
    length_front (x ∷ xs) (suc k) g = ap suc (length_front xs k (omega (arith, g)))

    front_same : (xs : List ℕ) (k j d : ℕ) → j < k → k ≤ length xs → get_or (take k xs) j d ≡ get_or xs j d
    front_same xs zero j d g e = absurd (let z : ⊥ = omega (arith, g) in z)
    front_same [] (suc k) j d g e = absurd (let z : ⊥ = omega (arith, e) in z)
    front_same (x ∷ xs) (suc k) zero d g e = refl
    front_same (x ∷ xs) (suc k) (suc j) d g e = front_same xs k j d (omega (arith, g)) (omega (arith, e))

    places : (xs : List ℕ) (k x : ℕ) → k < length xs → slice_index_or xs k x ≡ x → get_or xs k 0 ≡ x
    places [] k x g e = absurd (let z : ⊥ = omega (arith, g) in z)
    places (y ∷ xs) zero x g e = e
    places (y ∷ xs) (suc k) x g e = places xs k x (omega (arith, g)) e

some_front : (xs : List ℕ) (i : ℕ) → 0 < i → i < length xs → 0 < length (take i xs)
some_front [] i g h = absurd (let z : ⊥ = omega (arith, h) in z)
some_front (x ∷ xs) zero g h = absurd (let z : ⊥ = omega (arith, g) in z)
some_front (x ∷ xs) (suc i) g h = omega arith

pub taken_next : (old : List Block) (nodes : List ℕ) (i n : ℕ) (joined : Block) (left : List Block) → AllPairs (λ a b. a ≢ b) nodes → 0 < i → i < length nodes → get_or nodes i 0 ≡ n
    → IsTaken old (take i nodes) joined left → IsTaken old (take (i + 1) nodes) (then_block joined (block_at left n)) (set left n empty_block)
taken_next old nodes i n joined left once some h e t =
    let more : take (i + 1) nodes ≡ take i nodes ++ n ∷ [] = take_more nodes i 0 h ∙ ap (λ m. take i nodes ++ m ∷ []) e in
    let full : 0 < length (take i nodes) = some_front nodes i some h in
    let same : block_at left n ≡ block_at old n = t.same n (λ c. later_apart nodes i once h (subst (Contains (take i nodes)) (sym e) c)) in
    subst (λ ns. IsTaken old ns (then_block joined (block_at left n)) (set left n empty_block)) (sym more) (record {
      count = length-set left n empty_block ∙ t.count;
      are = ap (λ b. then_block b (block_at left n)) t.are ∙ ap (λ b. then_block (joined_blocks old (take i nodes)) b) same ∙ sym (pushed_nodes old (take i nodes) n full);
      same = λ m none.
          get_or-set_other left n m empty_block empty_block (λ s. none (subst (Contains (take i nodes ++ n ∷ [])) (sym s) (Contains-push (take i nodes) n)))
          ∙ t.same m (λ c. none (Contains-append_left (take i nodes) (n ∷ []) m c));
    })

-- ---- of all stretches

same_stmts : (bs cs : List Block) (ns : List ℕ) → ((n : ℕ) → Contains ns n → block_at bs n ≡ block_at cs n) → flat_map (λ n. (block_at bs n).stmts) ns ≡ flat_map (λ n. (block_at cs n).stmts) ns
same_stmts bs cs [] h = refl
same_stmts bs cs (n ∷ ns) h =
    ap (λ (b : Block). b.stmts ++ flat_map (λ m. (block_at bs m).stmts) ns) (h n (contains_here n ns))
    ∙ ap (λ ss. (block_at cs n).stmts ++ ss) (same_stmts bs cs ns (λ m g. h m (contains_later n m ns g)))

last_in : (n : ℕ) (ns : List ℕ) → Contains (n ∷ ns) (last_from n ns)
last_in n [] = contains_here n []
last_in n (m ∷ ns) = contains_later n (last_from m ns) (m ∷ ns) (last_in m ns)

-- a joined block is made of the blocks of its nodes alone
pub same_join : (bs cs : List Block) (name : ℕ → ℕ) (ns : List ℕ) → 0 < length ns → ((n : ℕ) → Contains ns n → block_at bs n ≡ block_at cs n) → join_of bs name ns ≡ join_of cs name ns
same_join bs cs name [] some h = absurd (let z : ⊥ = omega (arith, some) in z)
same_join bs cs name (n ∷ ns) some h =
    let at : (block_at bs n).at ≡ (block_at cs n).at = ap (λ (b : Block). b.at) (h n (contains_here n ns)) in
    let stmts = same_stmts bs cs (n ∷ ns) h in
    let end : (block_at bs (last_from n ns)).end ≡ (block_at cs (last_from n ns)).end = ap (λ (b : Block). b.end) (h (last_from n ns) (last_in n ns)) in
    cc

-- the blocks of some stretches were joined, and those of others are left
pub record JoinedUpTo (blocks : List Block) (name : ℕ → ℕ) (done rest : List (List ℕ)) (joined left : List Block) : Type 0 where
  pub count : length left ≡ length blocks
  pub are : joined ≡ map (join_of blocks name) done
  pub same : (n : ℕ) → Contains (concat rest) n → block_at left n ≡ block_at blocks n
  pub once : AllPairs (λ a b. a ≢ b) (concat rest)
  pub inside : (n : ℕ) → Contains (concat rest) n → n < length blocks
  pub some : All (λ nodes. 0 < length nodes) rest

map_pushed : (f : List ℕ → Block) (xs : List (List ℕ)) (x : List ℕ) → map f (xs ++ x ∷ []) ≡ map f xs ++ f x ∷ []
map_pushed f [] x = refl
map_pushed f (y ∷ xs) x = ap (λ bs. f y ∷ bs) (map_pushed f xs x)

module _ (blocks : List Block) (name : ℕ → ℕ) (done rest : List (List ℕ)) (s : List ℕ) (joined left : List Block) (up : JoinedUpTo blocks name done (s ∷ rest) joined left) where
  pub next_some : 0 < length s
  next_some = All-head (λ (nodes : List ℕ). 0 < length nodes) s rest up.some

  pub next_inside : All (λ n. n < length left) s
  next_inside k d h = omega (arith, up.inside (get_or s k d) (Contains-append_left s (concat rest) (get_or s k d) (Contains-get_or s k d h)), up.count)

  pub next_once : AllPairs (λ a b. a ≢ b) s
  next_once = once_left s (concat rest) up.once

  pub joined_more : (b : Block) (after : List Block) → length after ≡ length left → b ≡ join_of left name s → ((n : ℕ) → (Contains s n → ⊥) → block_at after n ≡ block_at left n)
      → JoinedUpTo blocks name (done ++ s ∷ []) rest (joined ++ b ∷ []) after
  joined_more b after size is keeps = record {
    count = size ∙ up.count;
    are =
        ap (λ bs. bs ++ b ∷ []) up.are
        ∙ ap (λ c. map (join_of blocks name) done ++ c ∷ []) (is ∙ same_join left blocks name s next_some (λ n c. up.same n (Contains-append_left s (concat rest) n c)))
        ∙ sym (map_pushed (join_of blocks name) done s);
    same = λ n c. keeps n (λ h. once_apart s (concat rest) n up.once h c) ∙ up.same n (Contains-append_right s (concat rest) n c);
    once = once_right s (concat rest) up.once;
    inside = λ n c. up.inside n (Contains-append_right s (concat rest) n c);
    some = All-tail (λ (nodes : List ℕ). 0 < length nodes) s rest up.some;
  }

pub first_taken : (nodes : List ℕ) → 0 < length nodes → take 1 nodes ≡ get_or nodes 0 0 ∷ []
first_taken [] h = absurd (let z : ⊥ = omega (arith, h) in z)
first_taken (n ∷ nodes) h = refl

pub taken_whole : (nodes : List ℕ) (i : ℕ) → length nodes ≤ i → take i nodes ≡ nodes
taken_whole [] zero h = refl
taken_whole [] (suc i) h = refl
taken_whole (n ∷ nodes) zero h = absurd (let z : ⊥ = omega (arith, h) in z)
taken_whole (n ∷ nodes) (suc i) h = ap (λ l. n ∷ l) (taken_whole nodes i (omega (arith, h)))

-- ---- as the code takes them

pub taken_start : (old : List Block) (nodes : List ℕ) (joined : Block) (left : List Block) → 0 < length nodes → joined ≡ block_at old (get_or nodes 0 0) → left ≡ set old (get_or nodes 0 0) empty_block
    → IsTaken old (take 1 nodes) joined left
taken_start old nodes joined left some is rest =
    subst (λ b. IsTaken old (take 1 nodes) b left) (sym is)
    (subst (λ bs. IsTaken old (take 1 nodes) (block_at old (get_or nodes 0 0)) bs) (sym rest) (taken_first old (get_or nodes 0 0) nodes (first_taken nodes some)))

pub taken_more : (old : List Block) (nodes : List ℕ) (i : ℕ) (b joined more : Block) (left after : List Block) → AllPairs (λ a b. a ≢ b) nodes → 0 < i → i < length nodes
    → b ≡ block_at left (get_or nodes i 0) → more ≡ then_block joined b → after ≡ set left (get_or nodes i 0) empty_block
    → IsTaken old (take i nodes) joined left → IsTaken old (take (i + 1) nodes) more after
taken_more old nodes i b joined more left after once some h is joins rest t =
    subst (λ c. IsTaken old (take (i + 1) nodes) c after) (sym (joins ∙ ap (then_block joined) is))
    (subst (λ bs. IsTaken old (take (i + 1) nodes) (then_block joined (block_at left (get_or nodes i 0))) bs) (sym rest) (taken_next old nodes i (get_or nodes i 0) joined left once some h refl t))
