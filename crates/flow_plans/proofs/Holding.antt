-- What is known holds: of values, and of entries.
use Rattle.std.proofs.Common.{◌≡◌, ℕ, ◌≤◌, ◌⊎◌, inl, inr, ⊎_elim, nat_eq, Bool, true, false, cond, not, ◌&&◌, ◌||◌, if◌then◌else◌, List, [], ◌∷◌, ◌++◌, refl, sym, ap, ◌∙◌, subst, arith}
use Rattle.std.specs.Prelude.{IsTrue}
use Rattle.dream_words.specs.declared.machine.Name.{Name}
use Rattle.run_parts.specs.World.{World}
use Rattle.run_parts.specs.Effects.{set_word}
use Rattle.flow_passes.specs.Uses.{same_name}
use Rattle.flow_plans.specs.declared.plan.Value.{Value}
use Rattle.flow_plans.specs.declared.plan.Way.{Way}
use Rattle.flow_plans.specs.declared.plan.Entry.{Entry}
use Rattle.flow_plans.specs.Known.{is_added, value_of, without, told, is_known, allows, allows_any, none_known, knows, common, entry_of, common_all, known_in, only, put_all, fade_all, picked_known, pick_all, owing, behind}
use Rattle.flow_plans.specs.Checked.{all_are, same_truth, is_covered, all_covered, all_clear, all_heads}
use Rattle.regions.proofs.Standing.{same_number, number_is}
use Rattle.regions.proofs.FlowWords.{and_true}
use Rattle.micro_ir.proofs.Values.{both_true}
use Rattle.flow_passes.proofs.Names.{or_left, or_right, either_of}
use Rattle.regions.proofs.Tracks.{Place}
use Rattle.flow_plans.proofs.Adding.{word_at, name_is, set_here, set_other}

-- ---- truths

or_false : (a b : Bool) → (a || b) ≡ false → (a ≡ false) × (b ≡ false)
or_false true b h = absurd (let z : ⊥ = cc in z)
or_false false b h = (refl, h)

if_then : (a b r : Bool) → (a ≡ true → b ≡ true) → r ≡ true → ((not a || b) && r) ≡ true
if_then true b r h k = ap (λ b. b && r) (h refl) ∙ k
if_then false b r h k = k

not_true : (a : Bool) → (a ≡ true → ⊥) → not a ≡ true
not_true true h = absurd (h refl)
not_true false h = refl

not_so : (a : Bool) → (a ≡ true → ⊥) → a ≡ false
not_so true h = absurd (h refl)
not_so false h = refl

-- a number that is another
is_number : (x y : ℕ) → x ≡ y → nat_eq x y ≡ true
is_number x y e = ap (λ k. nat_eq x k) (sym e) ∙ same_number x

-- ---- values

-- the known values are the variables' words
abbrev pub Hold : List Value → World → Type 0
Hold [] s = Unit {0}
Hold (a ∷ rest) s = (word_at a.name s ≡ a.value) × Hold rest s

hold_unless : (b : Bool) (a : Value) (rest : List Value) (t : World) → Hold rest t → (b ≡ false → word_at a.name t ≡ a.value) → Hold (if b then rest else a ∷ rest) t
hold_unless true a rest t h k = h
hold_unless false a rest t h k = (k refl, h)

hold_when : (b : Bool) (a : Value) (rest : List Value) (t : World) → Hold rest t → (b ≡ true → word_at a.name t ≡ a.value) → Hold (if b then a ∷ rest else rest) t
hold_when true a rest t h k = (k refl, h)
hold_when false a rest t h k = h

-- what is known of other variables stays
pub hold_without : (n : Name) (known : List Value) (s t : World) → ((v : Name) → same_name v n ≡ false → word_at v t ≡ word_at v s) → Hold known s → Hold (without n known) t
hold_without n [] s t same h = tt
hold_without n (a ∷ rest) s t same h =
    hold_unless (same_name a.name n) a (without n rest) t (hold_without n rest s t same h.1) (λ e. same a.name e ∙ h.0)

pub hold_same : (known : List Value) (s t : World) → ((v : Name) → word_at v t ≡ word_at v s) → Hold known s → Hold known t
hold_same [] s t same h = tt
hold_same (a ∷ rest) s t same h = (same a.name ∙ h.0, hold_same rest s t same h.1)

-- after a variable is set
pub hold_told : (v : Name) (x : ℕ) (known : List Value) (s : World) → IsTrue (is_added v) → Hold known s → Hold (told v x known) (set_word v x s)
hold_told v x known s h k = (set_here v x s h, hold_without v known s (set_word v x s) (λ u e. set_other v u x s e) k)

pub known_holds : (a : Value) (known : List Value) (s : World) → is_known a known ≡ true → Hold known s → word_at a.name s ≡ a.value
known_holds a [] s e h = absurd (let z : ⊥ = cc in z)
known_holds a (b ∷ rest) s e h =
    ⊎_elim
    (λ q. let w = both_true (same_name b.name a.name) (nat_eq b.value a.value) q in ap (λ v. word_at v s) (sym (name_is b.name a.name w.0)) ∙ h.0 ∙ number_is b.value a.value w.1)
    (λ q. known_holds a rest s q h.1)
    (either_of (same_name b.name a.name && nat_eq b.value a.value) (is_known a rest) e)

pub allows_holds : (a : Value) (known : List Value) (s : World) → word_at a.name s ≡ a.value → Hold known s → allows a known ≡ true
allows_holds a [] s e h = refl
allows_holds a (b ∷ rest) s e h =
    if_then (same_name b.name a.name) (nat_eq b.value a.value) (allows a rest)
    (λ q. is_number b.value a.value (sym h.0 ∙ ap (λ v. word_at v s) (name_is b.name a.name q) ∙ e))
    (allows_holds a rest s e h.1)

-- one of the variables has its value
abbrev pub is_any : List Value → World → Bool
is_any [] s = false
is_any (a ∷ rest) s = nat_eq (word_at a.name s) a.value || is_any rest s

pub any_allowed : (c known : List Value) (s : World) → is_any c s ≡ true → Hold known s → allows_any c known ≡ true
any_allowed [] known s e h = e
any_allowed (a ∷ rest) known s e h =
    ⊎_elim
    (λ q. or_left (allows a known) (allows_any rest known) (allows_holds a known s (number_is (word_at a.name s) a.value q) h))
    (λ q. or_right (allows a known) (allows_any rest known) (any_allowed rest known s q h))
    (either_of (nat_eq (word_at a.name s) a.value) (is_any rest s) e)

pub none_is_known : (c known : List Value) (s : World) → is_any c s ≡ false → Hold known s → none_known c known ≡ true
none_is_known [] known s e h = refl
none_is_known (a ∷ rest) known s e h =
    let w = or_false (nat_eq (word_at a.name s) a.value) (is_any rest s) e in
    and_true (not (is_known a known)) (none_known rest known)
    (not_true (is_known a known) (λ q. let f = is_number (word_at a.name s) a.value (known_holds a known s q h) in let z : ⊥ = cc (w.0, f) in z))
    (none_is_known rest known s w.1 h)

common_left : (known other : List Value) (s : World) → Hold known s → Hold (common known other) s
common_left [] other s h = tt
common_left (a ∷ rest) other s h = hold_when (is_known a other) a (common rest other) s (common_left rest other s h.1) (λ q. h.0)

common_right : (known other : List Value) (s : World) → Hold other s → Hold (common known other) s
common_right [] other s h = tt
common_right (a ∷ rest) other s h = hold_when (is_known a other) a (common rest other) s (common_right rest other s h) (λ q. known_holds a other s q h)

knows_hold : (known other : List Value) (s : World) → knows known other ≡ true → Hold other s → Hold known s
knows_hold [] other s k h = tt
knows_hold (a ∷ rest) other s k h =
    let w = both_true (is_known a other) (knows rest other) k in
    (known_holds a other s w.0 h, knows_hold rest other s w.1 h)

pub picked_holds : (w : Way) (u : Value) (known : List Value) (s : World) → IsTrue (is_added w.name) → Hold known s
    → Hold (picked_known w u known) (set_word w.name (if nat_eq (word_at u.name s) u.value then w.on_true else w.on_false) s)
picked_holds w u known s g h =
    at (is_known u known) (allows u known) (nat_eq (word_at u.name s) u.value) refl (λ q. known_holds u known s q h) (λ e. allows_holds u known s e h)
  where
    at : (p q r : Bool) → nat_eq (word_at u.name s) u.value ≡ r → (p ≡ true → word_at u.name s ≡ u.value) → (word_at u.name s ≡ u.value → q ≡ true)
        → Hold (if p then told w.name w.on_true known else (if q then without w.name known else told w.name w.on_false known)) (set_word w.name (if r then w.on_true else w.on_false) s)
    at true q true e k i = hold_told w.name w.on_true known s g h
    at true q false e k i = let f = is_number (word_at u.name s) u.value (k refl) in absurd (let z : ⊥ = cc (e, f) in z)
    at false true r e k i = hold_without w.name known s (set_word w.name (if r then w.on_true else w.on_false) s) (λ v ne. set_other w.name v (if r then w.on_true else w.on_false) s ne) h
    at false false true e k i = let f = i (number_is (word_at u.name s) u.value e) in absurd (let z : ⊥ = cc in z)
    at false false false e k i = hold_told w.name w.on_false known s g h

-- ---- entries

abbrev pub debt_of : Bool → ℕ
debt_of owes = cond owes 1 0

-- The invariant: with d turns owed the flow is about to enter n, which is one of these, and what is known of it holds.
abbrev pub Among : List Entry → Place
Among [] d n s = ⊥
Among (e ∷ rest) d n s = ((d ≡ debt_of e.owes) × (n ≡ e.node) × Hold e.known s) ⊎ Among rest d n s

common_holds : (known : List Value) (es : List Entry) (d n : ℕ) (s : World) → Hold known s ⊎ Among es d n s → Hold (common_all known es) s
common_holds known [] d n s h = ⊎_elim (λ k. k) (λ k. absurd k) h
common_holds known (e ∷ rest) d n s h =
    common_holds (common known e.known) rest d n s
    (⊎_elim (λ k. inl (common_left known e.known s k)) (λ k. ⊎_elim (λ r. inl (common_right known e.known s r.2)) (λ r. inr r) k) h)

pub in_behind : (es fs : List Entry) (d n : ℕ) (s : World) (d' n' : ℕ) (t : World) → Among es d n s → Among fs d' n' t → Among (behind es fs) d' n' t
in_behind [] fs d n s d' n' t h k = absurd h
in_behind (e ∷ rest) fs d n s d' n' t h k = k

pub in_known : (es : List Entry) (d n : ℕ) (s : World) → Among es d n s → Hold (known_in es) s
in_known [] d n s h = absurd h
in_known (e ∷ rest) d n s h = common_holds e.known rest d n s (⊎_elim (λ r. inl r.2) (λ r. inr r) h)

keep_here : (b : Bool) (e : Entry) (rest : List Entry) (d n : ℕ) (s : World) → b ≡ true → (d ≡ debt_of e.owes) × (n ≡ e.node) × Hold e.known s → Among (if b then e ∷ rest else rest) d n s
keep_here true e rest d n s q h = inl h
keep_here false e rest d n s q h = absurd (let z : ⊥ = cc in z)

keep_there : (b : Bool) (e : Entry) (rest : List Entry) (d n : ℕ) (s : World) → Among rest d n s → Among (if b then e ∷ rest else rest) d n s
keep_there true e rest d n s h = inr h
keep_there false e rest d n s h = h

pub in_only : (f : List Value → Bool) (es : List Entry) (d n : ℕ) (s : World) → ((known : List Value) → Hold known s → f known ≡ true) → Among es d n s → Among (only f es) d n s
in_only f [] d n s k h = absurd h
in_only f (e ∷ rest) d n s k h =
    ⊎_elim
    (λ r. keep_here (f e.known) e (only f rest) d n s (k e.known r.2) r)
    (λ r. keep_there (f e.known) e (only f rest) d n s (in_only f rest d n s k r))
    h

pub in_left : (es fs : List Entry) (d n : ℕ) (s : World) → Among es d n s → Among (es ++ fs) d n s
in_left [] fs d n s h = absurd h
in_left (e ∷ rest) fs d n s h = ⊎_elim (λ r. inl r) (λ r. inr (in_left rest fs d n s r)) h

pub in_right : (es fs : List Entry) (d n : ℕ) (s : World) → Among fs d n s → Among (es ++ fs) d n s
in_right [] fs d n s h = h
in_right (e ∷ rest) fs d n s h = inr (in_right rest fs d n s h)

truth_is : (a b : Bool) → same_truth a b ≡ true → a ≡ b
truth_is true b h = sym h
truth_is false true h = absurd (let z : ⊥ = cc in z)
truth_is false false h = refl

in_covering : (e : Entry) (fs : List Entry) (d n : ℕ) (s : World) → is_covered e fs ≡ true → (d ≡ debt_of e.owes) × (n ≡ e.node) × Hold e.known s → Among fs d n s
in_covering e [] d n s c h = absurd (let z : ⊥ = cc in z)
in_covering e (f ∷ rest) d n s c h =
    ⊎_elim
    (λ q.
    let a = both_true (same_truth e.owes f.owes) (nat_eq e.node f.node && knows f.known e.known) q in
    let b = both_true (nat_eq e.node f.node) (knows f.known e.known) a.1 in
    inl (h.0 ∙ ap debt_of (truth_is e.owes f.owes a.0), h.1 ∙ number_is e.node f.node b.0, knows_hold f.known e.known s b.1 h.2))
    (λ q. inr (in_covering e rest d n s q h))
    (either_of (same_truth e.owes f.owes && (nat_eq e.node f.node && knows f.known e.known)) (is_covered e rest) c)

pub in_covered : (es fs : List Entry) (d n : ℕ) (s : World) → all_covered es fs ≡ true → Among es d n s → Among fs d n s
in_covered [] fs d n s c h = absurd h
in_covered (e ∷ rest) fs d n s c h =
    let p = both_true (is_covered e fs) (all_covered rest fs) c in
    ⊎_elim (λ r. in_covering e fs d n s p.0 r) (λ r. in_covered rest fs d n s p.1 r) h

debt_fits : (owes head : Bool) (d : ℕ) → d ≡ debt_of owes → (not owes || head) ≡ true → d ≤ cond head 1 0
debt_fits true true d e h = omega (arith, e)
debt_fits true false d e h = absurd (let z : ⊥ = cc in z)
debt_fits false head d e h = omega (arith, e)

pub are : (head : Bool) (k : ℕ) (es : List Entry) (d n : ℕ) (s : World) → all_are head k es ≡ true → Among es d n s → (n ≡ k) × (d ≤ cond head 1 0)
are head k [] d n s a h = absurd h
are head k (e ∷ rest) d n s a h =
    let p = both_true (nat_eq e.node k) ((not e.owes || head) && all_are head k rest) a in
    let q = both_true (not e.owes || head) (all_are head k rest) p.1 in
    ⊎_elim (λ r. (r.1 ∙ number_is e.node k p.0, debt_fits e.owes head d r.0 q.0)) (λ r. are head k rest d n s q.1 r) h

pub heads_are : (head : ℕ → Bool) (es : List Entry) (d n : ℕ) (s : World) → all_heads head es ≡ true → Among es d n s → head n ≡ true
heads_are head [] d n s a h = absurd h
heads_are head (e ∷ rest) d n s a h =
    let p = both_true (head e.node) (all_heads head rest) a in
    ⊎_elim (λ r. ap head r.1 ∙ p.0) (λ r. heads_are head rest d n s p.1 r) h

no_debt : (owes : Bool) (d : ℕ) → d ≡ debt_of owes → not owes ≡ true → d ≡ 0
no_debt true d e h = absurd (let z : ⊥ = cc in z)
no_debt false d e h = e

pub are_clear : (es : List Entry) (d n : ℕ) (s : World) → all_clear es ≡ true → Among es d n s → d ≡ 0
are_clear [] d n s a h = absurd h
are_clear (e ∷ rest) d n s a h =
    let p = both_true (not e.owes) (all_clear rest) a in
    ⊎_elim (λ r. no_debt e.owes d r.0 p.0) (λ r. are_clear rest d n s p.1 r) h

pub in_fade : (v : Name) (es : List Entry) (d n : ℕ) (s : World) → Among es d n s → Among (fade_all v es) d n s
in_fade v [] d n s h = absurd h
in_fade v (e ∷ rest) d n s h = ⊎_elim (λ r. inl (r.0, r.1, hold_without v e.known s s (λ u ne. refl) r.2)) (λ r. inr (in_fade v rest d n s r)) h

pub in_owing : (es : List Entry) (d n : ℕ) (s : World) → Among es d n s → Among (owing es) 1 n s
in_owing [] d n s h = absurd h
in_owing (e ∷ rest) d n s h = ⊎_elim (λ r. inl (refl, r.1, r.2)) (λ r. inr (in_owing rest d n s r)) h

pub in_put : (v : Name) (x : ℕ) (es : List Entry) (d n : ℕ) (s : World) → IsTrue (is_added v) → Among es d n s → Among (put_all v x es) d n (set_word v x s)
in_put v x [] d n s g h = absurd h
in_put v x (e ∷ rest) d n s g h = ⊎_elim (λ r. inl (r.0, r.1, hold_told v x e.known s g r.2)) (λ r. inr (in_put v x rest d n s g r)) h

pub in_pick : (w : Way) (u : Value) (es : List Entry) (d n : ℕ) (s : World) → IsTrue (is_added w.name) → Among es d n s
    → Among (pick_all w u es) d n (set_word w.name (if nat_eq (word_at u.name s) u.value then w.on_true else w.on_false) s)
in_pick w u [] d n s g h = absurd h
in_pick w u (e ∷ rest) d n s g h = ⊎_elim (λ r. inl (r.0, r.1, picked_holds w u e.known s g r.2)) (λ r. inr (in_pick w u rest d n s g r)) h
