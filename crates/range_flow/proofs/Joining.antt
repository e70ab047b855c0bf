-- The blocks that are put one after another are those of the flow.
use Rattle.std.proofs.Common.{◌≡◌, ℕ, ◌+◌, ◌-◌, Bool, true, false, nat_eq, nat_lt, if◌then◌else◌, List, [], ◌∷◌, ◌++◌, length, map, Option, Some, None, refl, sym, ap, ◌∙◌, arith, add-zero, append_assoc, append-nil, length-append}
use Rattle.std.specs.Prelude.{slice_get, unwrap_or}
use Rattle.std.specs.HashMap.{get}
use Rattle.std.proofs.lemmas.Bool.Decides.{nat_tests}
use Rattle.std.proofs.lemmas.List.{length-map}
use Rattle.micro_ir.specs.declared.flow.Block.{Block}
use Rattle.flow_pieces.specs.declared.piece.FlowPiece.{FlowPiece}
use Rattle.range_flow.specs.declared.lifted.Lifted.{Lifted}
use Rattle.range_flow.specs.declared.first_nodes.FirstNodes.{FirstNodes}
use Rattle.range_flow.specs.Pieces.{first_node, node_of, flow_node, moved_block, blocks_from, flow_blocks}
use Rattle.range_flow.specs.Nodes.{piece_of, pieces_of, total_of, number_from, successor_by, node_by, joined_from, first_by}

-- ---- one more

pub longer : (first : ℕ → ℕ) (done more : List Block) (l : Lifted)
    → more ≡ done ++ map (moved_block (node_by first (length done) (length l.blocks.items) l.successors.items)) l.blocks.items
    → length more ≡ length done + length l.blocks.items
longer first done more l e =
    let own = map (moved_block (node_by first (length done) (length l.blocks.items) l.successors.items)) l.blocks.items in
    ap length e ∙ length-append done own ∙ ap (λ n. length done + n) (length-map l.blocks.items (moved_block (node_by first (length done) (length l.blocks.items) l.successors.items)))

pub one_more : (first : ℕ → ℕ) (done more : List Block) (l : Lifted) (rest : List Lifted) (whole : List Block)
    → more ≡ done ++ map (moved_block (node_by first (length done) (length l.blocks.items) l.successors.items)) l.blocks.items
    → done ++ joined_from first (length done) (l ∷ rest) ≡ whole
    → more ++ joined_from first (length more) rest ≡ whole
one_more first done more l rest whole e h =
    let own = map (moved_block (node_by first (length done) (length l.blocks.items) l.successors.items)) l.blocks.items in
    let len = longer first done more l e in
    ap (λ x. x ++ joined_from first (length more) rest) e ∙ ap (λ n. (done ++ own) ++ joined_from first n rest) len
    ∙ append_assoc done own (joined_from first (length done + length l.blocks.items) rest) ∙ h

-- ---- the numbers

same_test : (a b : ℕ) → nat_eq a b ≡ nat_eq b a
same_test a b = grind (arith, nat_tests)

number_by : (t : Bool) (n k total : ℕ) (o : Option ℕ) (first : ℕ) → unwrap_or o (n + k + total) ≡ n + k + first
    → unwrap_or (if t then Some n else o) (n + (k + total)) ≡ n + (if t then 0 else k + first)
number_by true n k total o first h = sym (add-zero n)
number_by false n k total o first h =
    let e : n + (k + total) ≡ n + k + total = omega arith in
    let f : n + k + first ≡ n + (k + first) = omega arith in
    ap (unwrap_or o) e ∙ h ∙ f

number_is : (n : ℕ) (ls : List Lifted) (a : ℕ) → unwrap_or (number_from n ls a) (n + total_of ls) ≡ n + first_node (pieces_of ls) a
number_is n [] a = refl
number_is n (l ∷ ls) a =
    number_by (nat_eq a l.at) n (length l.blocks.items) (total_of ls) (number_from (n + length l.blocks.items) ls a) (first_node (pieces_of ls) a)
    (number_is (n + length l.blocks.items) ls a)
    ∙ ap (λ t. n + (if t then 0 else length l.blocks.items + first_node (pieces_of ls) a)) (same_test a l.at)

-- what is kept tells the first node of each address
pub first_is : (num : FirstNodes) (ls : List Lifted) → ((a : ℕ) → get nat_eq num.firsts a ≡ number_from 0 ls a) → num.count ≡ total_of ls
    → first_by num ≡ first_node (pieces_of ls)
first_is num ls h e = λ i a. at a i
  where
    at : (a : ℕ) → first_by num a ≡ first_node (pieces_of ls) a
    at a =
        let zero' : 0 + total_of ls ≡ total_of ls = omega arith in
        let f : 0 + first_node (pieces_of ls) a ≡ first_node (pieces_of ls) a = omega arith in
        ap (λ o. unwrap_or o num.count) (h a) ∙ ap (unwrap_or (number_from 0 ls a)) (e ∙ sym zero') ∙ number_is 0 ls a ∙ f

-- ---- the blocks

successor_is : (ps : List FlowPiece) (o : Option ℕ) → successor_by (first_node ps) o ≡ node_of ps o
successor_is ps None = refl
successor_is ps (Some a) = refl

node_is : (ps : List FlowPiece) (start : ℕ) (l : Lifted) → node_by (first_node ps) start (length l.blocks.items) l.successors.items ≡ flow_node ps start (piece_of l)
node_is ps start l = λ i n. ap (λ k. if nat_lt n (length l.blocks.items) then start + n else k) (successor_is ps (slice_get l.successors.items (n - length l.blocks.items))) i

from_is : (ps : List FlowPiece) (start : ℕ) (ls : List Lifted) → joined_from (first_node ps) start ls ≡ blocks_from ps start (pieces_of ls)
from_is ps start [] = refl
from_is ps start (l ∷ ls) =
    ap (λ f. map (moved_block f) l.blocks.items ++ joined_from (first_node ps) (start + length l.blocks.items) ls) (node_is ps start l)
    ∙ ap (λ bs. map (moved_block (flow_node ps start (piece_of l))) l.blocks.items ++ bs) (from_is ps (start + length l.blocks.items) ls)

-- all of them
pub all_joined : (num : FirstNodes) (ls : List Lifted) (done : List Block) (rest : List Lifted) → ((a : ℕ) → get nat_eq num.firsts a ≡ number_from 0 ls a)
    → num.count ≡ total_of ls → rest ≡ [] → done ++ joined_from (first_by num) (length done) rest ≡ joined_from (first_by num) 0 ls
    → done ≡ flow_blocks (pieces_of ls)
all_joined num ls done rest h e nil whole =
    sym (append-nil done) ∙ ap (λ r. done ++ joined_from (first_by num) (length done) r) (sym nil) ∙ whole
    ∙ ap (λ f. joined_from f 0 ls) (first_is num ls h e) ∙ from_is (pieces_of ls) 0 ls
