-- What blocks weigh, all of them, and those of different nodes.
use Rattle.std.proofs.Common.{◌≡◌, ◌≢◌, ℕ, zero, suc, ◌+◌, ◌≤◌, List, [], ◌∷◌, ◌++◌, length, set, refl, sym, ap, ◌∙◌, arith, length-append}
use Rattle.std.specs.Prelude.{AllPairs, Contains}
use Rattle.std.proofs.lemmas.List.{get_or-set_other}
use Rattle.micro_ir.specs.declared.flow.Block.{Block}
use Rattle.micro_ir.specs.Checked.{nodes_of}
use Rattle.micro_ir.specs.Rule.{nodes_in}
use Rattle.flow_stretches.specs.Joined.{empty_block, block_at}
use Rattle.flow_stretches.proofs.Members.{contains_here, contains_later}

-- the weight of blocks
abbrev pub weight_of : (Block → ℕ) → List Block → ℕ
weight_of w [] = 0
weight_of w (b ∷ bs) = w b + weight_of w bs

-- and that of the blocks of nodes
abbrev pub weight_at : (Block → ℕ) → List Block → List ℕ → ℕ
weight_at w bs [] = 0
weight_at w bs (n ∷ ns) = w (block_at bs n) + weight_at w bs ns

-- a block that is taken away weighs no more
weight_taken : (w : Block → ℕ) (bs : List Block) (n : ℕ) → w empty_block ≡ 0 → w (block_at bs n) + weight_of w (set bs n empty_block) ≡ weight_of w bs
weight_taken w [] n e = omega (arith, e)
weight_taken w (b ∷ bs) zero e = omega (arith, e)
weight_taken w (b ∷ bs) (suc n) e = omega (arith, weight_taken w bs n e)

weight_same : (w : Block → ℕ) (bs : List Block) (n : ℕ) (ns : List ℕ) → ((m : ℕ) → Contains ns m → m ≢ n) → weight_at w (set bs n empty_block) ns ≡ weight_at w bs ns
weight_same w bs n [] h = refl
weight_same w bs n (m ∷ ns) h =
    let here : w (block_at (set bs n empty_block) m) ≡ w (block_at bs m) = ap w (get_or-set_other bs n m empty_block empty_block (h m (contains_here m ns))) in
    let rest : weight_at w (set bs n empty_block) ns ≡ weight_at w bs ns = weight_same w bs n ns (λ k g. h k (contains_later m k ns g)) in
    omega (arith, here, rest)

-- the first of different nodes isn't among the others
pub head_apart : (n : ℕ) (ns : List ℕ) → AllPairs (λ a b. a ≢ b) (n ∷ ns) → (m : ℕ) → Contains ns m → m ≢ n
head_apart n ns once m h = λ e. once 0 (suc h.0) m (omega arith) (omega (arith, h.1)) (sym e ∙ sym h.2)

pub tail_apart : (n : ℕ) (ns : List ℕ) → AllPairs (λ a b. a ≢ b) (n ∷ ns) → AllPairs (λ a b. a ≢ b) ns
tail_apart n ns once = λ i j d l h. once (suc i) (suc j) d (omega (arith, l)) (omega (arith, h))

-- different nodes have at most the weight of all
pub weight_within : (w : Block → ℕ) (ns : List ℕ) (bs : List Block) → w empty_block ≡ 0 → AllPairs (λ a b. a ≢ b) ns → weight_at w bs ns ≤ weight_of w bs
weight_within w [] bs e once = omega arith
weight_within w (n ∷ ns) bs e once =
    let rest : weight_at w (set bs n empty_block) ns ≤ weight_of w (set bs n empty_block) = weight_within w ns (set bs n empty_block) e (tail_apart n ns once) in
    omega (arith, rest, weight_taken w bs n e, weight_same w bs n ns (head_apart n ns once))

pub weight_append : (w : Block → ℕ) (bs : List Block) (ns ms : List ℕ) → weight_at w bs (ns ++ ms) ≡ weight_at w bs ns + weight_at w bs ms
weight_append w bs [] ms = omega arith
weight_append w bs (n ∷ ns) ms = omega (arith, weight_append w bs ns ms)

-- how many nodes blocks name, as a weight
pub names_weigh : (bs : List Block) → length (nodes_in bs) ≡ weight_of (λ b. length (nodes_of b.end)) bs
names_weigh [] = refl
names_weigh (b ∷ bs) = omega (arith, length-append (nodes_of b.end) (nodes_in bs), names_weigh bs)
