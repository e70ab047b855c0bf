-- What begins at the places that are reached of a range of which no place is named.
use Rattle.std.proofs.Common.{◌≡◌, inl, inr, ℕ, ◌≤◌, Bool, true, false, List, length, take, refl, sym, ◌∙◌, subst, arith}
use Rattle.std.specs.Prelude.{All, Contains}
use Rattle.std.proofs.lemmas.Bool.{cases_lt}
use Rattle.std.proofs.lemmas.List.{take_all}
use Rattle.elf_image.specs.declared.image.Segment.{Segment}
use Rattle.elf_image.specs.declared.range.Range.{Range}
use Rattle.elf_image.specs.Range.{bytes_to_end}
use Rattle.x86_inst.specs.declared.Inst.{Inst}
use Rattle.x86_inst.specs.declared.Inst.TheVariants as i
use Rattle.x86_inst.specs.declared.Operand.{Operand}
use Rattle.x86_inst.specs.Spelling.{Spells}
use Rattle.x86_decode.specs.Decodes.{NoneBegins}
use Rattle.x86_model.specs.Rows.{is_bare}
use Rattle.machine.specs.Code.{BeginsAt}
use Rattle.graph_order.specs.Graph.{Digraph}
use Rattle.flow_graph.specs.declared.place.Cause.TheVariants as cause
use Rattle.flow_graph.specs.Reach.{Reaches}
use Rattle.flow_graph.specs.Place.{HasNoPlace}
use Rattle.flow_graph.specs.Discovery.{IsDiscovered}
use Rattle.lift.specs.Given.{leaves_bare}
use Rattle.range_flow.specs.Lifting.{CanBeLifted}
use Rattle.range_flow.proofs.FoundPlaces.{discovered_cover}
use Rattle.range_flow.proofs.RangePlan.{all_by}

is_bare_jump : (x : Inst) → ((s : Operand) → x ≡ i.JmpTo s → is_bare s ≡ false → ⊥) → leaves_bare x ≡ true
is_bare_jump (i.JmpTo s) h = by (is_bare s) refl
  where
    by : (b : Bool) → is_bare s ≡ b → b ≡ true
    by true e = refl
    by false e = absurd (h s refl e)
is_bare_jump x h = refl

-- where no instruction begins, no front of the bytes is spelled
pub none_begins : (m : List Segment) (r : Range) (a : ℕ) → ((i : Inst) (n : ℕ) → BeginsAt m r a i n → ⊥) → NoneBegins (bytes_to_end m r a)
none_begins m r a none n inst spelled = elim (cases_lt (length (bytes_to_end m r a)) n) [
  | inl lt ↦
      let all : take n (bytes_to_end m r a) ≡ bytes_to_end m r a = take_all n (bytes_to_end m r a) (omega (arith, lt)) in
      let whole : take (length (bytes_to_end m r a)) (bytes_to_end m r a) ≡ bytes_to_end m r a = take_all (length (bytes_to_end m r a)) (bytes_to_end m r a) (omega arith) in
      none inst (length (bytes_to_end m r a)) (record { within = omega arith; spelled = subst (λ x. Spells x inst) (all ∙ sym whole) spelled })
  | inr le ↦ none inst n (record { within = le; spelled = spelled })
]

module _ (m : List Segment) (r : Range) (places : List ℕ) (g : Digraph) (n : HasNoPlace m r) (d : IsDiscovered m r places g) where
  can_be_lifted : (a : ℕ) → Contains places a → CanBeLifted m r a
  can_be_lifted a h =
      let reached : Reaches m r a = (d.reached a).0 h in
      record {
        begins = λ none. n.reached a cause.Instruction reached (none, λ begun. n.reached a cause.Straddle reached (none, begun));
        bare = λ x k b. is_bare_jump x (λ s is loose. n.reached a cause.IndirectJump reached (record { s = s; n = k; begins = subst (λ y. BeginsAt m r a y k) is b; loose = loose }));
      }

  pub all_can_be_lifted : All (CanBeLifted m r) places
  all_can_be_lifted = all_by (CanBeLifted m r) places can_be_lifted

  -- there are at most 65,536 places
  pub few_places : length places ≤ 65536
  few_places = (discovered_cover m r places g d n).1
