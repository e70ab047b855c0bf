-- A flow whose blocks were joined may be given.
use Rattle.std.proofs.Common.{◌≡◌, inl, inr, ℕ, zero, suc, ◌+◌, ◌<◌, ◌≤◌, Bool, true, false, ◌&&◌, nat_eq, cond, List, [], ◌∷◌, ◌++◌, length, get_or, map, Option, Some, None, refl, sym, ap, ◌∙◌, subst, arith}
use Rattle.std.specs.Prelude.{IsTrue, slice_get, slice_index, Contains, All}
use Rattle.std.specs.List.{concat, flat_map}
use Rattle.std.specs.List.Sorted.{IsStrictlyIncreasing}
use Rattle.std.proofs.lemmas.Bool.{cases_lt}
use Rattle.std.proofs.lemmas.List.{length-map}
use Rattle.std.proofs.lemmas.List.Elements.{All-contains, All-head, All-tail}
use Rattle.std.proofs.lemmas.Option.{slice_get_within, slice_get-get_or}
use Rattle.c_syntax.specs.declared.syntax.CExpr.{CExpr}
use Rattle.c_syntax.specs.declared.syntax.CCond.{CCond}
use Rattle.micro_ir.specs.declared.flow.Case.{Case}
use Rattle.micro_ir.specs.declared.flow.Stmt.{Stmt}
use Rattle.micro_ir.specs.declared.flow.End.{End as BlockEnd}
use Rattle.micro_ir.specs.declared.flow.End.TheVariants as end
use Rattle.micro_ir.specs.declared.flow.Block.{Block}
use Rattle.micro_ir.specs.declared.flow.Flow.{Flow}
use Rattle.micro_ir.specs.Checked.{nodes_of}
use Rattle.micro_ir.specs.Laws.{moved_case, moved_end}
use Rattle.micro_ir.specs.Rule.{IsGiven, is_flow_stmt, are_flow_stmts, have_words, is_flow_cond, is_flow_word, is_flow_end, is_flow_block, are_flow_blocks, nodes_in}
use Rattle.flow_stretches.specs.Ends.{shared_target, go_or, straight}
use Rattle.flow_stretches.specs.Joined.{block_at, IsFirst, first_of, last_from, last_of, IsStretch, join_of, IsJoined}
use Rattle.flow_stretches.specs.Laws.{JoinedIsGiven}
use Rattle.flow_stretches.proofs.Members.{contains_got, mapped, mapped_at}
use Rattle.flow_stretches.proofs.Straight.{straight_names}
use Rattle.flow_stretches.proofs.Reached.{entry_first, named_edge, target_first, reached_inside}
use Rattle.flow_stretches.proofs.Walking.{path_reached}
use Rattle.flow_stretches.proofs.Weights.{weight_of, weight_at, weight_within, weight_append, names_weigh}

-- ---- the rule

both : (a b : Bool) → IsTrue (a && b) → IsTrue a × IsTrue b
both true b e = (refl, e)
both false b e = absurd (let z : ⊥ = cc in z)

and_true : (a b : Bool) → IsTrue a → IsTrue b → IsTrue (a && b)
and_true true b p q = q
and_true false b p q = absurd (let z : ⊥ = cc in z)

stmts_append : (xs ys : List Stmt) → IsTrue (are_flow_stmts xs) → IsTrue (are_flow_stmts ys) → IsTrue (are_flow_stmts (xs ++ ys))
stmts_append [] ys p q = q
stmts_append (x ∷ xs) ys p q =
    let r = both (is_flow_stmt x) (are_flow_stmts xs) p in
    and_true (is_flow_stmt x) (are_flow_stmts (xs ++ ys)) r.0 (stmts_append xs ys r.1 q)

words_moved : (name : ℕ → ℕ) (cases : List Case) → have_words (map (moved_case name) cases) ≡ have_words cases
words_moved name [] = refl
words_moved name (c ∷ cases) = ap (λ b. Rattle.c_syntax.specs.Formed.is_word c.value && b) (words_moved name cases)

end_moved : (name : ℕ → ℕ) (e : BlockEnd) → IsTrue (is_flow_end e) → IsTrue (is_flow_end (moved_end name e))
end_moved name (end.Go a) h = refl
end_moved name (end.Branch t a b) h = h
end_moved name (end.Switch e cases) h = subst (λ b. IsTrue (is_flow_word e && b)) (sym (words_moved name cases)) h
end_moved name end.Return h = refl
end_moved name (end.Leave e) h = h

branch_straight : (t : CCond) (a b : ℕ) (same : Bool) → IsTrue (is_flow_cond t) → IsTrue (is_flow_end (cond same (end.Go a) (end.Branch t a b)))
branch_straight t a b true h = refl
branch_straight t a b false h = h

switch_straight : (e : CExpr) (cases : List Case) (s : Option ℕ) → IsTrue (is_flow_end (end.Switch e cases)) → IsTrue (is_flow_end (go_or s (end.Switch e cases)))
switch_straight e cases (Some a) h = refl
switch_straight e cases None h = h

end_straight : (e : BlockEnd) → IsTrue (is_flow_end e) → IsTrue (is_flow_end (straight e))
end_straight (end.Go a) h = refl
end_straight (end.Branch t a b) h = branch_straight t a b (nat_eq a b) h
end_straight (end.Switch e cases) h = switch_straight e cases (shared_target cases) h
end_straight end.Return h = refl
end_straight (end.Leave e) h = h

block_rule : (bs : List Block) (n : ℕ) → IsTrue (are_flow_blocks bs) → IsTrue (is_flow_block (block_at bs n))
block_rule [] n h = refl
block_rule (b ∷ bs) zero h = (both (is_flow_block b) (are_flow_blocks bs) h).0
block_rule (b ∷ bs) (suc n) h = block_rule bs n (both (is_flow_block b) (are_flow_blocks bs) h).1

block_parts : (b : Block) → IsTrue (is_flow_block b) → IsTrue (are_flow_stmts b.stmts) × IsTrue (is_flow_end b.end)
block_parts b h = both (are_flow_stmts b.stmts) (is_flow_end b.end) h

stmts_rule : (bs : List Block) (ns : List ℕ) → IsTrue (are_flow_blocks bs) → IsTrue (are_flow_stmts (flat_map (λ n. (block_at bs n).stmts) ns))
stmts_rule bs [] h = refl
stmts_rule bs (n ∷ ns) h = stmts_append (block_at bs n).stmts (flat_map (λ m. (block_at bs m).stmts) ns) (block_parts (block_at bs n) (block_rule bs n h)).0 (stmts_rule bs ns h)

join_rule : (bs : List Block) (name : ℕ → ℕ) (ns : List ℕ) → IsTrue (are_flow_blocks bs) → IsTrue (is_flow_block (join_of bs name ns))
join_rule bs name ns h =
    let last = block_at bs (last_of ns) in
    and_true (are_flow_stmts (flat_map (λ n. (block_at bs n).stmts) ns)) (is_flow_end (moved_end name (straight last.end)))
    (stmts_rule bs ns h)
    (end_moved name (straight last.end) (end_straight last.end (block_parts last (block_rule bs (last_of ns) h)).1))

joins_rule : (bs : List Block) (name : ℕ → ℕ) (stretches : List (List ℕ)) → IsTrue (are_flow_blocks bs) → IsTrue (are_flow_blocks (map (join_of bs name) stretches))
joins_rule bs name [] h = refl
joins_rule bs name (ns ∷ stretches) h = and_true (is_flow_block (join_of bs name ns)) (are_flow_blocks (map (join_of bs name) stretches)) (join_rule bs name ns h) (joins_rule bs name stretches h)

-- ---- how many nodes are named

nodes_moved : (name : ℕ → ℕ) (e : BlockEnd) → nodes_of (moved_end name e) ≡ map name (nodes_of e)
nodes_moved name (end.Go a) = refl
nodes_moved name (end.Branch t a b) = refl
nodes_moved name (end.Switch e cases) = cases_moved cases
  where
    cases_moved : (list : List Case) → map (λ (c : Case). c.to) (map (moved_case name) list) ≡ map name (map (λ (c : Case). c.to) list)
    cases_moved [] = refl
    cases_moved (c ∷ list) = ap (λ ns. name c.to ∷ ns) (cases_moved list)
nodes_moved name end.Return = refl
nodes_moved name (end.Leave e) = refl

branch_few : (t : CCond) (a b : ℕ) (same : Bool) → length (nodes_of (cond same (end.Go a) (end.Branch t a b))) ≤ 2
branch_few t a b true = omega arith
branch_few t a b false = omega arith

switch_few : (e : CExpr) (cases : List Case) (s : Option ℕ) → shared_target cases ≡ s → length (nodes_of (go_or s (end.Switch e cases))) ≤ length (map (λ (c : Case). c.to) cases)
switch_few e [] (Some a) g = absurd (let z : ⊥ = cc in z)
switch_few e (c ∷ cases) (Some a) g = omega arith
switch_few e cases None g = omega arith

straight_few : (e : BlockEnd) → length (nodes_of (straight e)) ≤ length (nodes_of e)
straight_few (end.Go a) = omega arith
straight_few (end.Branch t a b) = branch_few t a b (nat_eq a b)
straight_few (end.Switch e cases) = switch_few e cases (shared_target cases) refl
straight_few end.Return = omega arith
straight_few (end.Leave e) = omega arith

abbrev names : Block → ℕ
names b = length (nodes_of b.end)

last_weight : (bs : List Block) (n : ℕ) (ns : List ℕ) → names (block_at bs (last_from n ns)) ≤ weight_at names bs (n ∷ ns)
last_weight bs n [] = omega arith
last_weight bs n (m ∷ ns) = omega (arith, last_weight bs m ns)

join_few : (bs : List Block) (name : ℕ → ℕ) (ns : List ℕ) → 0 < length ns → names (join_of bs name ns) ≤ weight_at names bs ns
join_few bs name [] some = absurd (let z : ⊥ = omega (arith, some) in z)
join_few bs name (n ∷ ns) some =
    let e = (block_at bs (last_from n ns)).end in
    let moved : length (nodes_of (moved_end name (straight e))) ≡ length (nodes_of (straight e)) = ap length (nodes_moved name (straight e)) ∙ length-map (nodes_of (straight e)) name in
    omega (arith, moved, straight_few e, last_weight bs n ns)

joins_few : (bs : List Block) (name : ℕ → ℕ) (stretches : List (List ℕ)) → All (λ ns. 0 < length ns) stretches → weight_of names (map (join_of bs name) stretches) ≤ weight_at names bs (concat stretches)
joins_few bs name [] some = omega arith
joins_few bs name (ns ∷ stretches) some =
    omega (
      arith,
      join_few bs name ns (All-head (λ (ms : List ℕ). 0 < length ms) ns stretches some),
      joins_few bs name stretches (All-tail (λ (ms : List ℕ). 0 < length ms) ns stretches some),
      weight_append names bs ns (concat stretches),
    )

-- ---- how many blocks there are

grows : (xs : List ℕ) → IsStrictlyIncreasing xs → (k : ℕ) → k < length xs → k ≤ slice_index xs k
grows xs up zero h = omega arith
grows xs up (suc k) h =
    let e : k + 1 ≡ suc k = omega arith in
    let before : k ≤ slice_index xs k = grows xs up k (omega (arith, h)) in
    let next : slice_index xs k < slice_index xs (suc k) = subst (λ i. slice_index xs k < slice_index xs i) e (up k (omega (arith, h))) in
    omega (arith, before, next)

few_rising : (xs : List ℕ) (n : ℕ) → IsStrictlyIncreasing xs → ((k : ℕ) → k < length xs → slice_index xs k < n) → length xs ≤ n
few_rising xs n up below = elim (cases_lt n (length xs)) [
  | inl l ↦ absurd (let z : ⊥ = omega (arith, grows xs up n l, below n l) in z)
  | inr g ↦ g
]

module _ (f g : Flow) (given : IsGiven f) (j : IsJoined f g) where
  some_nodes : (ns : List ℕ) → IsStretch f ns → 0 < length ns
  some_nodes ns s = omega (arith, ap length s.are)

  all_some : All (λ ns. 0 < length ns) j.stretches
  all_some k d h = some_nodes (get_or j.stretches k d) (j.are.each k d h)

  first_inside : (ns : List ℕ) → IsStretch f ns → first_of ns < length f.blocks
  first_inside ns s = subst (λ n. n < length f.blocks) (sym (ap first_of s.are)) (reached_inside f s.first given.checked s.begins.reached)

  count_blocks : length g.blocks ≡ length j.stretches
  count_blocks = ap length j.blocks ∙ length-map j.stretches (join_of f.blocks j.name)

  few_stretches : length j.stretches ≤ length f.blocks
  few_stretches =
      let count : length (map first_of j.stretches) ≡ length j.stretches = length-map j.stretches first_of in
      let few = few_rising (map first_of j.stretches) (length f.blocks) j.are.ordered
      (λ k h. below k (slice_get (map first_of j.stretches) k) refl h) in
      omega (arith, count, few)
    where
      below : (k : ℕ) (o : Option ℕ) → slice_get (map first_of j.stretches) k ≡ o → k < length (map first_of j.stretches) → slice_index (map first_of j.stretches) k < length f.blocks
      below k o e h =
          let got = slice_get-get_or (map first_of j.stretches) k 0 h in
          let r = mapped_at first_of j.stretches k (slice_index (map first_of j.stretches) k) got in
          subst (λ n. n < length f.blocks) r.2 (first_inside r.0 (All-contains (IsStretch f) j.stretches r.0 j.are.each (contains_got j.stretches k r.0 r.1)))

  name_inside : (n : ℕ) → IsFirst f n → j.name n < length g.blocks
  name_inside n h =
      let s = j.are.named n h in
      omega (arith, count_blocks, slice_get_within j.stretches (j.name n) (n ∷ s.0) s.1)

  -- what a stretch names is a first node
  names_first : (ns : List ℕ) (t : ℕ) → IsStretch f ns → Contains (nodes_of (straight (block_at f.blocks (last_of ns)).end)) t → IsFirst f t
  names_first ns t s h =
      let last = last_from s.first s.others in
      let e : last_of ns ≡ last = ap last_of s.are in
      target_first f last t (path_reached f given s.others s.first s.begins.reached s.path) s.ends
      (named_edge f last t (straight_names (block_at f.blocks last).end t (subst (λ n. Contains (nodes_of (straight (block_at f.blocks n).end)) t) e h)))

  nodes_inside : (n a : ℕ) (b : Block) → slice_get g.blocks n ≡ Some b → Contains (nodes_of b.end) a → a < length g.blocks
  nodes_inside n a b here h =
      let r = mapped_at (join_of f.blocks j.name) j.stretches n b (subst (λ bs. slice_get bs n ≡ Some b) j.blocks here) in
      let e = straight (block_at f.blocks (last_of r.0)).end in
      let names : Contains (map j.name (nodes_of e)) a = subst (λ ns. Contains ns a) (ap (λ (c : Block). nodes_of c.end) (sym r.2) ∙ nodes_moved j.name e) h in
      let m = mapped j.name (nodes_of e) a names in
      subst (λ k. k < length g.blocks) m.2 (name_inside m.0 (names_first r.0 m.0 (All-contains (IsStretch f) j.stretches r.0 j.are.each (contains_got j.stretches n r.0 r.1)) m.1))

  few_named : length (nodes_in g.blocks) ≤ length (nodes_in f.blocks)
  few_named =
      omega (
        arith,
        ap (λ bs. length (nodes_in bs)) j.blocks,
        names_weigh (map (join_of f.blocks j.name) j.stretches),
        names_weigh f.blocks,
        joins_few f.blocks j.name j.stretches all_some,
        weight_within names (concat j.stretches) f.blocks refl j.are.once,
      )

pub joined_is_given : JoinedIsGiven
joined_is_given f g given j = record {
  checked = record {
    entry_inside = subst (λ n. n < length g.blocks) (sym j.entry) (name_inside f g given j f.entry (entry_first f));
    nodes_inside = nodes_inside f g given j;
  };
  rule = subst (λ bs. IsTrue (are_flow_blocks bs)) (sym j.blocks) (joins_rule f.blocks j.name j.stretches given.rule);
  few_blocks = omega (arith, given.few_blocks, count_blocks f g given j, few_stretches f g given j);
  few_nodes = omega (arith, given.few_nodes, few_named f g given j);
}
