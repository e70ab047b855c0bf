-- Ends that go where they lead in any case.
use Rattle.std.proofs.Common.{◌≡◌, ◌⊎◌, inl, inr, ℕ, Bool, true, false, ◌&&◌, nat_eq, cond, List, [], ◌∷◌, Option, Some, None, map, refl, sym, ap, ◌∙◌, subst}
use Rattle.std.specs.Prelude.{Contains}
use Rattle.std.specs.List.{list_all}
use Rattle.run_parts.specs.Steps.{Next, Halt, Jam, To, Nowhere, arrive}
use Rattle.run_parts.specs.World.{World}
use Rattle.run_parts.specs.Effects.{Doing}
use Rattle.c_syntax.specs.declared.syntax.CExpr.{CExpr}
use Rattle.c_syntax.specs.declared.syntax.CCond.{CCond}
use Rattle.c_syntax.specs.Run.{word_in, holds, does_ext}
use Rattle.micro_ir.specs.declared.flow.Case.{Case}
use Rattle.micro_ir.specs.declared.flow.End.{End as BlockEnd}
use Rattle.micro_ir.specs.declared.flow.End.TheVariants as end
use Rattle.micro_ir.specs.Checked.{nodes_of}
use Rattle.micro_ir.specs.Run.{Arrive, branch, first_case, by_value, left_by, end_leads}
use Rattle.flow_stretches.specs.Ends.{only_target, shared_target, go_or, straight}
use Rattle.flow_stretches.proofs.Members.{equal_of, contains_here, contains_later, contains_cases, none_in}

-- The second leads where the first does, where that is anywhere.
abbrev pub LeadsOr : Arrive → Arrive → Type 0
LeadsOr a b = (a ≡ Nowhere) ⊎ (b ≡ a)

-- ---- a branch to one node

branch_leads : (t : CCond) (a b : ℕ) (w : World) (same : Bool) → nat_eq a b ≡ same → (h : Option Bool) → holds t w ≡ h
    → LeadsOr (branch h a b w) (end_leads (cond same (end.Go a) (end.Branch t a b)) w)
branch_leads t a b w true e None h = inl refl
branch_leads t a b w true e (Some true) h = inr refl
branch_leads t a b w true e (Some false) h = inr (ap (λ n. To n w) (equal_of a b e))
branch_leads t a b w false e o h = inr (ap (λ p. branch p a b w) h)

-- ---- a switch to one node

case_leads : (c : Case) (cases : List Case) (a x : ℕ) (w : World) → c.to ≡ a → LeadsOr (first_case cases x w) (To a w) → (b : Bool) → LeadsOr (cond b (To c.to w) (first_case cases x w)) (To a w)
case_leads c cases a x w e h true = inr (ap (λ n. To n w) (sym e))
case_leads c cases a x w e h false = h

both : (a b : Bool) → (a && b) ≡ true → (a ≡ true) × (b ≡ true)
both true b e = (refl, e)
both false b e = absurd (let z : ⊥ = cc in z)

cases_lead : (cases : List Case) (a x : ℕ) (w : World) → list_all (λ d. nat_eq d.to a) cases ≡ true → LeadsOr (first_case cases x w) (To a w)
cases_lead [] a x w e = inl refl
cases_lead (c ∷ cases) a x w e =
    let p = both (nat_eq c.to a) (list_all (λ d. nat_eq d.to a) cases) e in
    case_leads c cases a x w (equal_of c.to a p.0) (cases_lead cases a x w p.1) (nat_eq x c.value)

-- all of them lead there
shared_first : (c : Case) (cases : List Case) (a : ℕ) (b : Bool) → list_all (λ d. nat_eq d.to c.to) cases ≡ b → cond b (Some c.to) None ≡ Some a → (c.to ≡ a) × (list_all (λ d. nat_eq d.to a) cases ≡ true)
shared_first c cases a true e g = let s : c.to ≡ a = cc in (s, subst (λ n. list_all (λ d. nat_eq d.to n) cases ≡ true) s e)
shared_first c cases a false e g = absurd (let z : ⊥ = cc in z)

shared_leads : (cases : List Case) (a : ℕ) (w : World) → shared_target cases ≡ Some a → (o : Option ℕ) → LeadsOr (by_value o cases w) (To a w)
shared_leads cases a w e None = inl refl
shared_leads [] a w e (Some x) = inl refl
shared_leads (c ∷ cases) a w e (Some x) =
    let s = shared_first c cases a (list_all (λ d. nat_eq d.to c.to) cases) refl e in
    case_leads c cases a x w s.0 (cases_lead cases a x w s.1) (nat_eq x c.value)

switch_leads : (e : CExpr) (cases : List Case) (w : World) (s : Option ℕ) → shared_target cases ≡ s → LeadsOr (by_value (word_in e w) cases w) (end_leads (go_or s (end.Switch e cases)) w)
switch_leads e cases w (Some a) s = shared_leads cases a w s (word_in e w)
switch_leads e cases w None s = inr refl

-- the straight end leads where the end does, where that is anywhere
pub straight_leads : (e : BlockEnd) (w : World) → LeadsOr (end_leads e w) (end_leads (straight e) w)
straight_leads (end.Go a) w = inr refl
straight_leads (end.Branch t a b) w = branch_leads t a b w (nat_eq a b) refl (holds t w) refl
straight_leads (end.Switch e cases) w = switch_leads e cases w (shared_target cases) refl
straight_leads end.Return w = inr refl
straight_leads (end.Leave e) w = inr refl

-- ---- an end that leads to one node

only_branch : (a b m : ℕ) (w : World) (same : Bool) → nat_eq a b ≡ same → cond same (Some a) None ≡ Some m → (h : Option Bool) → (branch h a b w ≡ Nowhere) ⊎ (branch h a b w ≡ To m w)
only_branch a b m w true e g None = inl refl
only_branch a b m w true e g (Some true) = inr (let s : a ≡ m = cc in ap (λ n. To n w) s)
only_branch a b m w true e g (Some false) = inr (let s : a ≡ m = cc in ap (λ n. To n w) (sym (equal_of a b e) ∙ s))
only_branch a b m w false e g h = absurd (let z : ⊥ = cc in z)

-- it leads there, or nowhere
pub only_leads : (e : BlockEnd) (m : ℕ) (w : World) → only_target e ≡ Some m → (end_leads e w ≡ Nowhere) ⊎ (end_leads e w ≡ To m w)
only_leads (end.Go a) m w g = inr (let s : a ≡ m = cc in ap (λ n. To n w) s)
only_leads (end.Branch t a b) m w g = only_branch a b m w (nat_eq a b) refl g (holds t w)
only_leads (end.Switch e cases) m w g = absurd (let z : ⊥ = cc in z)
only_leads end.Return m w g = absurd (let z : ⊥ = cc in z)
only_leads (end.Leave e) m w g = absurd (let z : ⊥ = cc in z)

only_named : (a b m : ℕ) (same : Bool) → cond same (Some a) None ≡ Some m → Contains (a ∷ b ∷ []) m
only_named a b m true g = subst (λ n. Contains (a ∷ b ∷ []) n) (let s : a ≡ m = cc in s) (contains_here a (b ∷ []))
only_named a b m false g = absurd (let z : ⊥ = cc in z)

-- it names that node
pub only_is_named : (e : BlockEnd) (m : ℕ) → only_target e ≡ Some m → Contains (nodes_of e) m
only_is_named (end.Go a) m g = subst (λ n. Contains (a ∷ []) n) (let s : a ≡ m = cc in s) (contains_here a [])
only_is_named (end.Branch t a b) m g = only_named a b m (nat_eq a b) g
only_is_named (end.Switch e cases) m g = absurd (let z : ⊥ = cc in z)
only_is_named end.Return m g = absurd (let z : ⊥ = cc in z)
only_is_named (end.Leave e) m g = absurd (let z : ⊥ = cc in z)

-- ---- the nodes that ends name

branch_names : (t : CCond) (a b n : ℕ) (same : Bool) → Contains (nodes_of (cond same (end.Go a) (end.Branch t a b))) n → Contains (a ∷ b ∷ []) n
branch_names t a b n true h = elim (contains_cases a n [] h) [
  | inl e ↦ subst (λ m. Contains (a ∷ b ∷ []) m) e (contains_here a (b ∷ []))
  | inr p ↦ absurd (none_in n p)
]
branch_names t a b n false h = h

shared_named : (cases : List Case) (a : ℕ) → shared_target cases ≡ Some a → Contains (map (λ c. c.to) cases) a
shared_named [] a e = absurd (let z : ⊥ = cc in z)
shared_named (c ∷ cases) a e =
    let s = shared_first c cases a (list_all (λ d. nat_eq d.to c.to) cases) refl e in
    subst (λ m. Contains (map (λ d. d.to) (c ∷ cases)) m) s.0 (contains_here c.to (map (λ d. d.to) cases))

switch_names : (e : CExpr) (cases : List Case) (n : ℕ) (s : Option ℕ) → shared_target cases ≡ s → Contains (nodes_of (go_or s (end.Switch e cases))) n → Contains (map (λ c. c.to) cases) n
switch_names e cases n (Some a) s h = elim (contains_cases a n [] h) [
  | inl q ↦ subst (λ m. Contains (map (λ c. c.to) cases) m) q (shared_named cases a s)
  | inr p ↦ absurd (none_in n p)
]
switch_names e cases n None s h = h

-- the straight end names none but those of the end
pub straight_names : (e : BlockEnd) (n : ℕ) → Contains (nodes_of (straight e)) n → Contains (nodes_of e) n
straight_names (end.Go a) n h = h
straight_names (end.Branch t a b) n h = branch_names t a b n (nat_eq a b) h
straight_names (end.Switch e cases) n h = switch_names e cases n (shared_target cases) refl h
straight_names end.Return n h = h
straight_names (end.Leave e) n h = h

-- ---- where an end leads is named

to_same : (m n : ℕ) (w u : World) → ◌≡◌ {A = Arrive} (To m w) (To n u) → m ≡ n
to_same m n w u e = cc

branch_to : (h : Option Bool) (a b n : ℕ) (w u : World) → branch h a b w ≡ To n u → Contains (a ∷ b ∷ []) n
branch_to None a b n w u e = absurd (let z : ⊥ = cc in z)
branch_to (Some true) a b n w u e = subst (λ m. Contains (a ∷ b ∷ []) m) (to_same a n w u e) (contains_here a (b ∷ []))
branch_to (Some false) a b n w u e = subst (λ m. Contains (a ∷ b ∷ []) m) (to_same b n w u e) (contains_later a b (b ∷ []) (contains_here b []))

case_to : (c : Case) (cases : List Case) (n x : ℕ) (w u : World) → (first_case cases x w ≡ To n u → Contains (map (λ d. d.to) cases) n) → (b : Bool) → cond b (To c.to w) (first_case cases x w) ≡ To n u
    → Contains (map (λ d. d.to) (c ∷ cases)) n
case_to c cases n x w u h true e = subst (λ m. Contains (map (λ d. d.to) (c ∷ cases)) m) (to_same c.to n w u e) (contains_here c.to (map (λ d. d.to) cases))
case_to c cases n x w u h false e = contains_later c.to n (map (λ d. d.to) cases) (h e)

cases_to : (cases : List Case) (n x : ℕ) (w u : World) → first_case cases x w ≡ To n u → Contains (map (λ d. d.to) cases) n
cases_to [] n x w u e = absurd (let z : ⊥ = cc in z)
cases_to (c ∷ cases) n x w u e = case_to c cases n x w u (cases_to cases n x w u) (nat_eq x c.value) e

value_to : (o : Option ℕ) (cases : List Case) (n : ℕ) (w u : World) → by_value o cases w ≡ To n u → Contains (map (λ d. d.to) cases) n
value_to None cases n w u e = absurd (let z : ⊥ = cc in z)
value_to (Some x) cases n w u e = cases_to cases n x w u e

left_to : (d : Doing) (n : ℕ) (u : World) → left_by d ≡ To n u → ⊥
left_to (Next w) n u e = cc
left_to (Halt o) n u e = cc
left_to Jam n u e = cc

pub end_to : (e : BlockEnd) (n : ℕ) (w u : World) → end_leads e w ≡ To n u → Contains (nodes_of e) n
end_to (end.Go a) n w u g = subst (λ m. Contains (a ∷ []) m) (to_same a n w u g) (contains_here a [])
end_to (end.Branch t a b) n w u g = branch_to (holds t w) a b n w u g
end_to (end.Switch e cases) n w u g = value_to (word_in e w) cases n w u g
end_to end.Return n w u g = absurd (let z : ⊥ = cc in z)
end_to (end.Leave e) n w u g = absurd (left_to (does_ext e w) n u g)

pub arrive_to : (d : Doing) (e : BlockEnd) (n : ℕ) (u : World) → arrive d (end_leads e) ≡ To n u → Contains (nodes_of e) n
arrive_to (Next w) e n u g = end_to e n w u g
arrive_to (Halt o) e n u g = absurd (let z : ⊥ = cc in z)
arrive_to Jam e n u g = absurd (let z : ⊥ = cc in z)
