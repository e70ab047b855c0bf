-- Induction over a line of blocks.
use Rattle.std.proofs.Common.{◌≡◌, ℕ, zero, suc, List, [], ◌∷◌, Option, Some, None, refl, subst}
use Rattle.std.specs.Prelude.{slice_get}
use Rattle.micro_ir.specs.declared.flow.Block.{Block}
use Rattle.guarded.specs.declared.tree.Tree.{Tree, Tree-F, roll-Tree}
use Rattle.regions.specs.Plain.{block_tree}
use Rattle.regions.specs.declared.one_line.Way.{Way}
use Rattle.regions.specs.declared.one_line.Way.TheVariants.{On, Over, Splits}
use Rattle.regions.specs.Straight.{way_of, with_rest, on_way, from_block, line, in_line}

-- what holds of a last block, and of a block with a line after it, holds of every line
module _ (blocks : List Block) (P : ℕ → List Tree → Type 0)
    (last : (n : ℕ) (b : Block) → slice_get blocks n ≡ Some b → way_of b.end ≡ Over → P n (block_tree b ∷ []))
    (longer : (n c : ℕ) (b : Block) (ts : List Tree) → slice_get blocks n ≡ Some b → way_of b.end ≡ On c → P c ts → P n (block_tree b ∷ ts)) where
  rest_is : (n c : ℕ) (b : Block) (ts : List Tree) (o : Option (List Tree)) → slice_get blocks n ≡ Some b → way_of b.end ≡ On c → with_rest (block_tree b) o ≡ Some ts
      → ((us : List Tree) → o ≡ Some us → P c us) → P n ts
  rest_is n c b ts None e w h g = absurd (let z : ⊥ = cc in z)
  rest_is n c b ts (Some us) e w h g =
      let same : block_tree b ∷ us ≡ ts = cc in
      subst (P n) same (longer n c b us e w (g us refl))

  way_is : (n : ℕ) (b : Block) (w : Way) (ts : List Tree) (next : ℕ → Option (List Tree)) → slice_get blocks n ≡ Some b → way_of b.end ≡ w → on_way (block_tree b) w next ≡ Some ts
      → ((c : ℕ) (us : List Tree) → next c ≡ Some us → P c us) → P n ts
  way_is n b (On c) ts next e w h g = rest_is n c b ts (next c) e w h (g c)
  way_is n b Over ts next e w h g =
      let same : block_tree b ∷ [] ≡ ts = cc in
      subst (P n) same (last n b e w)
  way_is n b Splits ts next e w h g = absurd (let z : ⊥ = cc in z)

  block_is : (n : ℕ) (o : Option Block) (ts : List Tree) (next : ℕ → Option (List Tree)) → slice_get blocks n ≡ o → from_block o next ≡ Some ts
      → ((c : ℕ) (us : List Tree) → next c ≡ Some us → P c us) → P n ts
  block_is n None ts next e h g = absurd (let z : ⊥ = cc in z)
  block_is n (Some b) ts next e h g = way_is n b (way_of b.end) ts next e refl h g

  pub every_line : (k n : ℕ) (ts : List Tree) → line blocks k n ≡ Some ts → P n ts
  every_line zero n ts h = absurd (let z : ⊥ = cc in z)
  every_line (suc k) n ts h = block_is n (slice_get blocks n) ts (line blocks k) refl h (λ c us g. every_line k c us g)

-- a tree that is a line, and its members
pub record IsLineTree (o : Option (List Tree)) (t : Tree) : Type 0 where
  pub trees : List Tree
  pub line_is : o ≡ Some trees
  pub seq : roll-Tree (Tree-F.Seq trees) ≡ t

pub line_tree : (o : Option (List Tree)) (t : Tree) → in_line o ≡ Some t → IsLineTree o t
line_tree None t h = absurd (let z : ⊥ = cc in z)
line_tree (Some ts) t h = record { trees = ts; line_is = refl; seq = cc }
