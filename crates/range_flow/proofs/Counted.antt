-- The flow of a range has as many stores and calls as the instructions at its places have, and a call for each address outside.
use Rattle.std.proofs.Common.{◌≡◌, ℕ, ◌+◌, Bool, true, false, cond, List, [], ◌∷◌, ◌++◌, length, map, refl, sym, ap, ◌∙◌, subst, arith}
use Rattle.std.specs.Prelude.{Contains}
use Rattle.std.specs.List.{AllZip, count_by}
use Rattle.std.proofs.lemmas.List.{length-map}
use Rattle.std.proofs.lemmas.List.Elements.{All-contains}
use Rattle.std.proofs.lemmas.List.Recursion.{is_count_by}
use Rattle.elf_image.specs.declared.image.Segment.{Segment}
use Rattle.elf_image.specs.declared.range.Range.{Range}
use Rattle.x86_inst.specs.declared.Inst.{Inst}
use Rattle.x86_model.specs.Successors.{stores as is_store, asks as is_ask}
use Rattle.micro_ir.specs.declared.flow.Block.{Block}
use Rattle.micro_ir.specs.declared.flow.Flow.{Flow}
use Rattle.micro_ir.specs.declared.flow.End.{End as BlockEnd}
use Rattle.micro_ir.specs.declared.flow.End.TheVariants as end
use Rattle.micro_ir.specs.Laws.{moved_end}
use Rattle.micro_ir.specs.Counts.{stores_of_stmts, stores_of, calls_of_end, calls_of}
use Rattle.lift_parts.specs.Lifted.{once}
use Rattle.flow_graph.specs.Reach.{AreSuccessors}
use Rattle.flow_graph.proofs.OneLists.{one_list}
use Rattle.flow_pieces.specs.declared.piece.FlowPiece.{FlowPiece}
use Rattle.range_flow.specs.Pieces.{IsPieceOf, IsLeaveTo, addresses_of, flow_node, moved_block, blocks_from}
use Rattle.range_flow.specs.Flow.{IsFlowOf}
use Rattle.range_flow.specs.Counts.{StandsAt, IsNextOutside}
use Rattle.range_flow.specs.Laws.{FlowCounts}
use Rattle.range_flow.proofs.Standing.{leads, Does, does}
use Rattle.range_flow.proofs.Members.{contains_here, contains_later, contains_mapped, mapped}

-- ---- of the blocks of pieces

abbrev store_total : List FlowPiece → ℕ
store_total [] = 0
store_total (p ∷ ps) = stores_of p.blocks + store_total ps

abbrev call_total : List FlowPiece → ℕ
call_total [] = 0
call_total (p ∷ ps) = calls_of p.blocks + call_total ps

store_total-append : (xs ys : List FlowPiece) → store_total (xs ++ ys) ≡ store_total xs + store_total ys
store_total-append [] ys = omega arith
store_total-append (x ∷ xs) ys = omega (arith, store_total-append xs ys)

call_total-append : (xs ys : List FlowPiece) → call_total (xs ++ ys) ≡ call_total xs + call_total ys
call_total-append [] ys = omega arith
call_total-append (x ∷ xs) ys = omega (arith, call_total-append xs ys)

stores-append : (xs ys : List Block) → stores_of (xs ++ ys) ≡ stores_of xs + stores_of ys
stores-append [] ys = omega arith
stores-append (x ∷ xs) ys = omega (arith, stores-append xs ys)

calls-append : (xs ys : List Block) → calls_of (xs ++ ys) ≡ calls_of xs + calls_of ys
calls-append [] ys = omega arith
calls-append (x ∷ xs) ys = omega (arith, calls-append xs ys)

stores_moved : (f : ℕ → ℕ) (bs : List Block) → stores_of (map (moved_block f) bs) ≡ stores_of bs
stores_moved f [] = refl
stores_moved f (b ∷ bs) = ap (λ n. stores_of_stmts b.stmts + n) (stores_moved f bs)

end_moved : (f : ℕ → ℕ) (e : BlockEnd) → calls_of_end (moved_end f e) ≡ calls_of_end e
end_moved f (end.Go a) = refl
end_moved f (end.Branch t a b) = refl
end_moved f (end.Switch e cases) = refl
end_moved f end.Return = refl
end_moved f (end.Leave e) = refl

calls_moved : (f : ℕ → ℕ) (bs : List Block) → calls_of (map (moved_block f) bs) ≡ calls_of bs
calls_moved f [] = refl
calls_moved f (b ∷ bs) = omega (arith, end_moved f b.end, calls_moved f bs)

stores_joined : (all : List FlowPiece) (s : ℕ) (ps : List FlowPiece) → stores_of (blocks_from all s ps) ≡ store_total ps
stores_joined all s [] = refl
stores_joined all s (p ∷ ps) =
    omega (arith, stores-append (map (moved_block (flow_node all s p)) p.blocks) (blocks_from all (s + length p.blocks) ps), stores_moved (flow_node all s p) p.blocks, stores_joined all (s + length p.blocks) ps)

calls_joined : (all : List FlowPiece) (s : ℕ) (ps : List FlowPiece) → calls_of (blocks_from all s ps) ≡ call_total ps
calls_joined all s [] = refl
calls_joined all s (p ∷ ps) =
    omega (arith, calls-append (map (moved_block (flow_node all s p)) p.blocks) (blocks_from all (s + length p.blocks) ps), calls_moved (flow_node all s p) p.blocks, calls_joined all (s + length p.blocks) ps)

-- ---- of the pieces of places

abbrev number_of : (Inst → Bool) → List Inst → ℕ
number_of p [] = 0
number_of p (x ∷ xs) = cond (p x) (1 + number_of p xs) (number_of p xs)

one_more : (b : Bool) (n : ℕ) → once b + n ≡ cond b (1 + n) n
one_more true n = refl
one_more false n = omega arith

number_is : (p : Inst → Bool) (xs : List Inst) → number_of p xs ≡ count_by p xs
number_is p xs = is_count_by (number_of p) p refl (λ x xs. refl) xs

module _ (m : List Segment) (r : Range) where
  abbrev Counted : List FlowPiece → Type 0
  Counted ps = (xs : List Inst) × AllZip (StandsAt m r) (addresses_of ps) xs × (store_total ps ≡ number_of is_store xs) × (call_total ps ≡ number_of is_ask xs)

  counted : (ps : List FlowPiece) → ((p : FlowPiece) → Contains ps p → IsPieceOf m r p) → Counted ps
  counted [] h = ([], tt, refl, refl)
  counted (p ∷ ps) h =
      let i : Does m r p = does m r p (h p (contains_here p ps)) in
      let rest = counted ps (λ q g. h q (contains_later p q ps g)) in (
        i.inst ∷ rest.0,
        (i.stands, rest.1),
        ap (λ n. n + store_total ps) i.stores ∙ ap (λ n. once (is_store i.inst) + n) rest.2 ∙ one_more (is_store i.inst) (number_of is_store rest.0),
        ap (λ n. n + call_total ps) i.calls ∙ ap (λ n. once (is_ask i.inst) + n) rest.3 ∙ one_more (is_ask i.inst) (number_of is_ask rest.0),
      )

-- ---- of the pieces of addresses outside

leaves_counted : (ps : List FlowPiece) → ((p : FlowPiece) → Contains ps p → IsLeaveTo p) → (store_total ps ≡ 0) × (call_total ps ≡ length ps)
leaves_counted [] h = (refl, refl)
leaves_counted (p ∷ ps) h =
    let l = h p (contains_here p ps) in
    let rest = leaves_counted ps (λ q g. h q (contains_later p q ps g)) in
    (omega (arith, rest.0, ap stores_of l.blocks), omega (arith, rest.1, ap calls_of l.blocks))

-- ---- the flow

module _ (m : List Segment) (r : Range) (places : List ℕ) (f : Flow) (is : IsFlowOf m r places f) where
  piece : (p : FlowPiece) → Contains is.inner p → IsPieceOf m r p
  piece p h = All-contains (IsPieceOf m r) is.inner p is.instructions h

  next_outside : (a : ℕ) → Contains (addresses_of is.outer) a → IsNextOutside m r places a
  next_outside a h =
      let o = is.outside a h in
      record {
        away = o.0;
        place = o.1.at;
        listed = subst (λ l. Contains l o.1.at) is.at_places (contains_mapped (λ q. q.at) is.inner o.1 o.2);
        list = o.1.successors;
        leads = leads m r o.1 (piece o.1 o.2);
        has = o.3;
      }

  has_piece : (a : ℕ) → IsNextOutside m r places a → Contains (addresses_of is.outer) a
  has_piece a o =
      let q = mapped (λ q. q.at) is.inner o.place (subst (λ l. Contains l o.place) (sym is.at_places) o.listed) in
      let same : o.list ≡ q.0.successors = one_list m r q.0.at o.list q.0.successors (subst (λ b. AreSuccessors m r b o.list) (sym q.2) o.leads) (leads m r q.0 (piece q.0 q.1)) in
      is.complete a (o.away, q.0, q.1, subst (λ l. Contains l a) same o.has)

pub flow_counts : FlowCounts
flow_counts m r places f is =
    let ps = is.inner ++ is.outer in
    let c = counted m r is.inner (piece m r places f is) in
    let l = leaves_counted is.outer (λ p h. All-contains IsLeaveTo is.outer p is.leaves h) in
    let stores : stores_of f.blocks ≡ store_total ps = ap stores_of is.blocks ∙ stores_joined ps 0 ps in
    let calls : calls_of f.blocks ≡ call_total ps = ap calls_of is.blocks ∙ calls_joined ps 0 ps in
    record {
      instructions = c.0;
      stand = subst (λ xs. AllZip (StandsAt m r) xs c.0) is.at_places c.1;
      outside = addresses_of is.outer;
      once = is.once;
      exact = λ a. (next_outside m r places f is a, has_piece m r places f is a);
      stores_are = omega (arith, stores, store_total-append is.inner is.outer, c.2, l.0, number_is is_store c.0);
      asks_are = omega (arith, calls, call_total-append is.inner is.outer, c.3, l.1, number_is is_ask c.0, length-map is.outer (λ p. p.at));
    }
