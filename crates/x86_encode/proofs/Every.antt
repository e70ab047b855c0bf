-- The best over all rows comes no later than any spelling.
use Rattle.std.proofs.Common.{◌≡◌, ℕ, zero, suc, ◌+◌, ◌*◌, ◌<◌, ◌≤◌, Bool, true, false, cond, List, [], ◌∷◌, ◌++◌, length, Option, Some, None, refl, sym, ap, subst, ◌∙◌, inl, inr, ◌⊎◌, arith, length-append}
use Rattle.std.specs.Prelude.{◌||◌, nat_le, map, slice_get, position, unwrap_or, IfSome}
use Rattle.std.specs.List.{list_all}
use Rattle.std.proofs.lemmas.Bool.{cases_lt, leb-true}
use Rattle.x86_inst.specs.declared.Inst.{Inst}
use Rattle.x86_inst.specs.declared.Inst.TheVariants as inst
use Rattle.x86_inst.specs.Rows.{Prefixes, Fields, takes, operand_size}
use Rattle.x86_inst.specs.Rows as spec
use Rattle.x86_inst.specs.Table.{table}
use Rattle.x86_inst.specs.Spelling.{AreBytes, allows, opcode, opcode_bytes, Operands, Spells}
use Rattle.x86_decode.specs.declared.rows.Row.{Row}
use Rattle.x86_decode.specs.declared.rows.Mode.{Mode}
use Rattle.x86_decode.specs.declared.rows.Repeats.TheVariants.{Never}
use Rattle.x86_decode.specs.declared.rows.Width.TheVariants.{NoImm}
use Rattle.x86_decode.specs.declared.table.TheConstants.{TABLE}
use Rattle.x86_decode.specs.declared.forms.Form.{Form}
use Rattle.x86_decode.specs.declared.forms.Form.TheVariants as form
use Rattle.x86_decode.specs.View.{row_of, modrm_of, inst_of}
use Rattle.x86_encode.specs.declared.code.Code.{Code}
use Rattle.x86_encode.specs.Bytes.{bytes_of, spelling_of, HasSpelling}
use Rattle.x86_encode.specs.Parts.{parts_of, fields_from}
use Rattle.x86_encode.specs.Least.{AtMost, SpellsIt, Encodes}
use Rattle.x86_encode.proofs.Order.{AtMost-trans}
use Rattle.x86_encode.proofs.Best.{Before, Reached}
use Rattle.x86_encode.proofs.Fields.{shown_of, shown_again}
use Rattle.x86_encode.proofs.Columns.{is_nop, kept, says}
use Rattle.x86_encode.proofs.ByRow.{Best, Stands, none_fields, none_read, none_best, some_fields, some_read, some_best}
use Rattle.x86_encode.proofs.Flags.{and_true}

-- ---- rows of the table

row_at : (rs : List Row) (j : ℕ) (s : spec.Row) → slice_get (map row_of rs) j ≡ Some s → (r : Row) × (slice_get rs j ≡ Some r) × (row_of r ≡ s)
row_at [] j s e = absurd cc
row_at (r ∷ rs) zero s e = (r, refl, cc)
row_at (r ∷ rs) (suc j) s e = row_at rs j s e

at_row : (rs : List Row) (j : ℕ) (r : Row) → slice_get rs j ≡ Some r → slice_get (map row_of rs) j ≡ Some (row_of r)
at_row [] j r e = absurd cc
at_row (s ∷ rs) zero r e = let k : s ≡ r = cc in ap (λ (z : Row). Some (row_of z)) k
at_row (s ∷ rs) (suc j) r e = at_row rs j r e

below : (rs : List Row) (j : ℕ) (r : Row) → slice_get rs j ≡ Some r → j < length rs
below [] j r e = absurd cc
below (s ∷ rs) zero r e = omega arith
below (s ∷ rs) (suc j) r e = let lt = below rs j r e in omega arith

all_at : (p : Row → Bool) (rs : List Row) (j : ℕ) (r : Row) → list_all p rs ≡ true → slice_get rs j ≡ Some r → p r ≡ true
all_at p [] j r e g = absurd cc
all_at p (s ∷ rs) zero r e g = let k : s ≡ r = cc in subst (λ x. p x ≡ true) k (and_true (p s) (list_all p rs) e).0
all_at p (s ∷ rs) (suc j) r e g = all_at p rs j r (and_true (p s) (list_all p rs) e).1 g

before_after : (best : Option Code) (x y : List ℕ) → Before best x → AtMost x y → Before best y
before_after None x y h k = h
before_after (Some b) x y h k = AtMost-trans (bytes_of b) x y h k

-- ---- a row of another instruction than Nop

module _ (is_table : map row_of TABLE ≡ table) (i : Inst) (best : Option Code) (reached : Reached i TABLE (length TABLE) best) where
  by_best : (r : Row) (j : ℕ) (h : Fields) (y : List ℕ) → slice_get TABLE j ≡ Some r → fields_from r.form (parts_of i) ≡ h → Best r i h y → Before best y
  by_best r j h y g e b =
      let at = reached j r (below TABLE j r g) g (subst (HasSpelling r) (sym e) b.fits) (subst (λ z. Spells (spelling_of r z) i) (sym e) b.spells) in
      before_after best (spelling_of r h) y (subst (λ z. Before best (spelling_of r z)) e at) b.at_most

  module _ (r : Row) (j : ℕ) (l : List ℕ) (p : Prefixes) (low : ℕ) where
    by_row : (rest : List ℕ) → slice_get TABLE j ≡ Some r → kept r ≡ true → Stands r j l p low rest → (o : Option Mode) → r.modrm ≡ o → Operands (row_of r) p low (modrm_of o) rest i →
        Before best (l ++ (opcode_bytes r.escape (opcode (row_of r) low) ++ rest))
    by_row rest g keep st None e h =
        let f = none_fields r j l p low rest i in
        let told = says j r f g keep in
        by_best r j (shown_of r.form f) _ g
        (ap (λ z. fields_from r.form (parts_of z)) h.1 ∙ shown_again r.form f (told.asks (none_read r j l p low rest i e st h.0)))
        (none_best r j l p low rest i e st told h.0 h.1)
    by_row [] g keep st (Some k) e h = absurd h
    by_row (m ∷ s) g keep st (Some k) e h =
        let c = h.1 in
        let f = some_fields r j l p low (m ∷ s) i k m s e refl c in
        let told = says j r f g keep in
        by_best r j (shown_of r.form f) _ g
        (ap (λ z. fields_from r.form (parts_of z)) c.inst ∙ shown_again r.form f (told.asks (some_read r j l p low (m ∷ s) i k m s e refl c h.0 st)))
        (some_best r j l p low (m ∷ s) i k m s e refl c h.0 st told)

-- ---- Nop, whose least spelling is 90

nop_is : (k : Form) → is_nop k ≡ true → (f : Fields) → inst_of k f ≡ inst.Nop
nop_is (form.AluByOpcode z a b) e f = absurd cc
nop_is form.Nop e f = refl
nop_is other e f = absurd cc

-- the first row of Nop
abbrev nop_place : ℕ
nop_place = unwrap_or (position (λ r. is_nop r.form) TABLE) 0

abbrev nop_row : Row
nop_row = record { escape = false; first = 0x90; step = 1; count = 1; sized = true; repeats = Never; modrm = None; imm = NoImm; form = form.Nop }

nop_listed : slice_get TABLE nop_place ≡ Some nop_row
nop_listed = refl

-- the other rows of Nop have a greater opcode, or 0F before it
abbrev is_later : Row → Bool
is_later r = cond (is_nop r.form) (r.escape || nat_le 0x90 r.first) true

all_later : list_all is_later TABLE ≡ true
all_later = refl

nop_spells : map row_of TABLE ≡ table → Spells (0x90 ∷ []) inst.Nop
nop_spells is_table = record {
  prefix = [];
  p = record { size = None; segment = None; repeat = None };
  s = 0x90 ∷ [];
  bytes = refl;
  are_bytes = (omega arith, tt);
  prefixes = record { only = tt; size = refl; segment = refl; repeat = refl };
  follows = record {
    r = row_of nop_row;
    place = nop_place;
    low = 0;
    rest = [];
    listed = subst (λ (t : List spec.Row). slice_get t nop_place ≡ Some (row_of nop_row)) is_table (at_row TABLE nop_place nop_row nop_listed);
    allowed = refl;
    within = omega arith;
    bytes = refl;
    operands = (refl, refl);
  };
}

nop_least : (l : List ℕ) (e : Bool) (op : ℕ) (rest : List ℕ) → (e ≡ true) ⊎ (0x90 ≤ op) → AtMost (0x90 ∷ []) (l ++ (opcode_bytes e op ++ rest))
nop_least [] true op rest h = inl (omega arith)
nop_least [] false op [] h =
    elim h [
      | inl t ↦ absurd cc
      | inr le ↦ elim (cases_lt 0x90 op) [ inl lt ↦ inr (refl, inl lt) | inr ge ↦ inr (refl, inr (omega arith, tt)) ]
    ]
nop_least [] false op (b ∷ rest) h = inl (omega arith)
nop_least (b ∷ l) true op rest h = inl (omega (arith, length-append l (0x0F ∷ op ∷ rest)))
nop_least (b ∷ l) false op rest h = inl (omega (arith, length-append l (op ∷ rest)))

later_of : (a b : Bool) (first step low : ℕ) → (a || nat_le 0x90 first) ≡ true → (a ≡ true) ⊎ (0x90 ≤ first + step * low)
later_of true b first step low e = inl refl
later_of false b first step low e = inr (let k : 0x90 ≤ first = leb-true 0x90 first e in omega arith)

-- ---- every spelling

nop_case : (b : Bool) → cond b false true ≡ false → b ≡ true
nop_case true e = refl
nop_case false e = absurd cc

operands_inst : (r : Row) (p : Prefixes) (low : ℕ) (o : Option Mode) (rest : List ℕ) (i : Inst) → Operands (row_of r) p low (modrm_of o) rest i → (f : Fields) × (i ≡ inst_of r.form f)
operands_inst r p low None rest i h = (_, h.1)
operands_inst r p low (Some k) [] i h = absurd h
operands_inst r p low (Some k) (m ∷ s) i h = (_, h.1.inst)

by_nop : map row_of TABLE ≡ table → (i : Inst) (best : Option Code) → i ≡ inst.Nop → Reached i TABLE (length TABLE) best → Before best (0x90 ∷ [])
by_nop is_table i best e reached =
    let at = reached nop_place nop_row (below TABLE nop_place nop_row nop_listed) nop_listed (omega arith, refl)
    (subst (λ z. Spells (0x90 ∷ []) z) (sym e) (nop_spells is_table)) in
    at

pub every : map row_of TABLE ≡ table → (i : Inst) (best : Option Code) → Reached i TABLE (length TABLE) best → (y : List ℕ) → Spells y i → Before best y
every is_table i best reached y h =
    let f = h.follows in
    let found = row_at TABLE f.place f.r (subst (λ (t : List spec.Row). slice_get t f.place ≡ Some f.r) (sym is_table) f.listed) in
    at found.0 found.1 found.2
  where
    at : (r : Row) → slice_get TABLE h.follows.place ≡ Some r → row_of r ≡ h.follows.r → Before best y
    at r g e =
        let f = h.follows in
        let y_is : y ≡ h.prefix ++ (opcode_bytes r.escape (opcode (row_of r) f.low) ++ f.rest) =
        h.bytes ∙ ap (λ (z : List ℕ). h.prefix ++ z) (f.bytes ∙ ap (λ (z : spec.Row). opcode_bytes z.escape (opcode z f.low) ++ f.rest) (sym e)) in
        let operands : Operands (row_of r) h.p f.low (modrm_of r.modrm) f.rest i = subst (λ (z : spec.Row). Operands z h.p f.low z.modrm f.rest i) (sym e) f.operands in
        let st : Stands r f.place h.prefix h.p f.low f.rest = record {
          listed = f.listed ∙ ap (λ (z : spec.Row). Some z) (sym e);
          allowed = subst (λ (z : spec.Row). allows z h.p ≡ true) (sym e) f.allowed;
          within = subst (λ (z : spec.Row). f.low < z.count) (sym e) f.within;
          are = h.prefixes;
          bytes = subst AreBytes y_is h.are_bytes;
        } in
        subst (λ (z : List ℕ). Before best z) (sym y_is) (split r g st operands (kept r) refl)
      where
        split : (r : Row) → slice_get TABLE h.follows.place ≡ Some r → Stands r h.follows.place h.prefix h.p h.follows.low h.follows.rest →
            Operands (row_of r) h.p h.follows.low (modrm_of r.modrm) h.follows.rest i → (b : Bool) → kept r ≡ b →
            Before best (h.prefix ++ (opcode_bytes r.escape (opcode (row_of r) h.follows.low) ++ h.follows.rest))
        split r g st operands true k = by_row is_table i best reached r h.follows.place h.prefix h.p h.follows.low h.follows.rest g k st r.modrm refl operands
        split r g st operands false k =
            let nop = nop_case (is_nop r.form) k in
            let o = operands_inst r h.p h.follows.low r.modrm h.follows.rest i operands in
            let i_is : i ≡ inst.Nop = o.1 ∙ nop_is r.form nop o.0 in
            let later : (r.escape || nat_le 0x90 r.first) ≡ true = subst (λ b. cond b (r.escape || nat_le 0x90 r.first) true ≡ true) nop (all_at is_later TABLE h.follows.place r all_later g) in
            before_after best (0x90 ∷ []) _ (by_nop is_table i best i_is reached)
            (nop_least h.prefix r.escape (opcode (row_of r) h.follows.low) h.follows.rest (later_of r.escape true r.first r.step h.follows.low later))

-- what the loop leaves is what an encoder answers
pub encodes : map row_of TABLE ≡ table → (i : Inst) (best : Option Code) → IfSome best (SpellsIt i) → Reached i TABLE (length TABLE) best → Encodes i best
encodes is_table i None sound reached = λ y h. every is_table i None reached y h
encodes is_table i (Some b) sound reached = (sound.0, sound.1, λ y h. every is_table i (Some b) reached y h)
