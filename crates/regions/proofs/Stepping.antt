-- A line is gone along block by block.
use Rattle.std.proofs.Common.{◌≡◌, ℕ, zero, suc, ◌<◌, ◌≤◌, List, [], ◌∷◌, ◌++◌, ◌+◌, ◌-◌, length, get_or, Option, Some, None, refl, sym, ap, ◌∙◌, append_assoc, arith}
use Rattle.std.specs.Prelude.{slice_get}
use Rattle.std.proofs.lemmas.Option.{slice_get_read}
use Rattle.micro_ir.specs.declared.flow.Block.{Block}
use Rattle.guarded.specs.declared.tree.Tree.{Tree}
use Rattle.regions.specs.declared.one_line.Way.{Way}
use Rattle.regions.specs.declared.one_line.Way.TheVariants.{On, Over, Splits}
use Rattle.regions.specs.Plain.{block_tree}
use Rattle.regions.specs.Straight.{way_at, trees_at, with_rest, on_way, from_block, line, behind}

pub found : (bs : List Block) (i : ℕ) (b : Block) → i < length bs → b ≡ get_or bs i b → slice_get bs i ≡ Some b
found bs i b l e = slice_get_read bs (length bs) i b refl l e

pub past : (bs : List Block) (i : ℕ) → length bs ≤ i → slice_get bs i ≡ None
past [] i h = refl
past (b ∷ bs) zero h = absurd (omega (arith, h))
past (b ∷ bs) (suc i) h = past bs i (omega (arith, h))

-- a tree behind others, and then a line
behind_one : (ts : List Tree) (t : Tree) (o : Option (List Tree)) → behind (ts ++ t ∷ []) o ≡ behind ts (with_rest t o)
behind_one ts t None = refl
behind_one ts t (Some us) = ap (λ vs. Some vs) (append_assoc ts (t ∷ []) us)

-- a block from which the line goes on
pub on_step : (ts : List Tree) (c : ℕ) (o : Option Block) (next : ℕ → Option (List Tree)) → way_at o ≡ On c → behind (ts ++ trees_at o) (next c) ≡ behind ts (from_block o next)
on_step ts c None next h = absurd (let z : ⊥ = cc in z)
on_step ts c (Some b) next h = behind_one ts (block_tree b) (next c) ∙ ap (λ w. behind ts (on_way (block_tree b) w next)) (sym h)

-- the last block
pub over_step : (ts : List Tree) (o : Option Block) (next : ℕ → Option (List Tree)) → way_at o ≡ Over → Some (ts ++ trees_at o) ≡ behind ts (from_block o next)
over_step ts None next h = absurd (let z : ⊥ = cc in z)
over_step ts (Some b) next h = ap (λ w. behind ts (on_way (block_tree b) w next)) (sym h)

-- a block at which the line splits
pub splits_step : (ts : List Tree) (o : Option Block) (next : ℕ → Option (List Tree)) → way_at o ≡ Splits → None ≡ behind ts (from_block o next)
splits_step ts None next h = refl
splits_step ts (Some b) next h = ap (λ w. behind ts (on_way (block_tree b) w next)) (sym h)

-- the same, where a number is another spelling of the place
pub found_at : (bs : List Block) (i n : ℕ) (b : Block) → i ≡ n → i < length bs → b ≡ get_or bs i b → slice_get bs n ≡ Some b
found_at bs i n b e l h = ap (slice_get bs) (sym e) ∙ found bs i b l h

pub past_at : (bs : List Block) (i n : ℕ) → i ≡ n → length bs ≤ i → slice_get bs n ≡ None
past_at bs i n e h = ap (slice_get bs) (sym e) ∙ past bs i h

-- ---- the loop

behind_none : (o : Option (List Tree)) → behind [] o ≡ o
behind_none None = refl
behind_none (Some us) = refl

module _ (blocks : List Block) (count n node : ℕ) (ts : List Tree) where
  -- before the first block
  pub first_round : ts ≡ [] → behind ts (line blocks (n - 0) node) ≡ line blocks n node
  first_round e =
      let m : n - 0 ≡ n = omega arith in
      ap (λ k. behind ts (line blocks k node)) m ∙ ap (λ us. behind us (line blocks n node)) e ∙ behind_none (line blocks n node)

  -- one block of those that are left
  one_round : count < n → line blocks (n - count) node ≡ from_block (slice_get blocks node) (line blocks (n - (count + 1)))
  one_round l = let m : n - count ≡ suc (n - (count + 1)) = omega (arith, l) in ap (λ k. line blocks k node) m

  pub on_round : (us : List Tree) (c : ℕ) (w : Way) (whole : Option (List Tree)) → count < n → w ≡ way_at (slice_get blocks node) → w ≡ On c → us ≡ ts ++ trees_at (slice_get blocks node)
      → behind ts (line blocks (n - count) node) ≡ whole → behind us (line blocks (n - (count + 1)) c) ≡ whole
  on_round us c w whole l e i g h =
      ap (λ vs. behind vs (line blocks (n - (count + 1)) c)) g
      ∙ on_step ts c (slice_get blocks node) (line blocks (n - (count + 1))) (sym e ∙ i)
      ∙ ap (behind ts) (sym (one_round l)) ∙ h

  pub over_round : (us : List Tree) (w : Way) (whole : Option (List Tree)) → count < n → w ≡ way_at (slice_get blocks node) → w ≡ Over → us ≡ ts ++ trees_at (slice_get blocks node)
      → behind ts (line blocks (n - count) node) ≡ whole → Some us ≡ whole
  over_round us w whole l e i g h =
      ap (λ vs. Some vs) g
      ∙ over_step ts (slice_get blocks node) (line blocks (n - (count + 1))) (sym e ∙ i)
      ∙ ap (behind ts) (sym (one_round l)) ∙ h

  pub splits_round : (w : Way) (whole : Option (List Tree)) → count < n → w ≡ way_at (slice_get blocks node) → w ≡ Splits
      → behind ts (line blocks (n - count) node) ≡ whole → None ≡ whole
  splits_round w whole l e i h =
      splits_step ts (slice_get blocks node) (line blocks (n - (count + 1))) (sym e ∙ i) ∙ ap (behind ts) (sym (one_round l)) ∙ h

  -- no block is left
  pub last_round : (whole : Option (List Tree)) → n ≤ count → behind ts (line blocks (n - count) node) ≡ whole → None ≡ whole
  last_round whole l h = let m : 0 ≡ n - count = omega (arith, l) in ap (λ k. behind ts (line blocks k node)) m ∙ h
