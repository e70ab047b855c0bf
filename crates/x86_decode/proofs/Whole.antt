-- An instruction is read as it is spelled.
use Rattle.std.proofs.Common.{◌≡◌, ℕ, zero, suc, ◌<◌, Bool, true, false, cond, List, [], ◌∷◌, ◌++◌, Option, Some, None, Err, refl, sym, ap, subst, ◌∙◌}
use Rattle.std.specs.Prelude.{◌==◌, ◌&&◌, ◌||◌, slice_get, nat_lt, MatchBool}
use Rattle.std.specs.List.{list_any}
use Rattle.std.proofs.lemmas.Bool.{ltb-true, eqb-true}
use Rattle.x86_inst.specs.declared.Inst.{Inst}
use Rattle.x86_inst.specs.Rows.{Prefixes, Row, Repeats, Never, F3Allowed, F2F3Allowed, F3Needed, allows_repeat}
use Rattle.x86_inst.specs.Table.{table}
use Rattle.x86_inst.specs.Spelling.{allows, allows_size, opcode, opcode_bytes, Follows}
use Rattle.x86_decode.specs.declared.fields.Stop.TheVariants.{Bad}
use Rattle.x86_decode.specs.Reading.{Read, byte_then, row_at, allows_0F, follows_at}
use Rattle.x86_decode.proofs.Strings.{Reads, Some_of, reads_fail, reads_as, reads_if, ByteThen, reads_byte}
use Rattle.x86_decode.proofs.Separate.{and_true, true_and, no, place_some, place_is, IsOpen, good_opcode, good_row}
use Rattle.x86_decode.proofs.Opcodes.{Row_follows, reads_row, some_row}

allows_sized : (o : Option ℕ) → allows_size true o ≡ true
allows_sized None = refl
allows_sized (Some b) = refl

open_at : (j : ℕ) (r : Row) (p : Prefixes) (low : ℕ) → slice_get table j ≡ Some r → allows r p ≡ true → low < r.count → IsOpen r p r.escape (opcode r low) low
open_at j r p low g a lt = record { escape_is = refl; place_of = place_is r low (good_row j r g).step lt; allowed = a }

any_of : (f : Row → Bool) (rs : List Row) → list_any f rs ≡ true → (i : ℕ) × (r : Row) × (slice_get rs i ≡ Some r) × (f r ≡ true)
any_of f [] e = absurd cc
any_of f (s ∷ rs) e = at (f s) refl (any_of f rs) e
  where
    at : (b : Bool) → f s ≡ b → (list_any f rs ≡ true → (i : ℕ) × (r : Row) × (slice_get rs i ≡ Some r) × (f r ≡ true)) → (b || list_any f rs) ≡ true → (i : ℕ) × (r : Row) × (slice_get (s ∷ rs) i ≡ Some r) × (f r ≡ true)
    at true t rest e = (0, s, refl, t)
    at false t rest e = let g = rest e in (suc g.0, g.1, g.2, g.3)

any_at : (f : Row → Bool) (rs : List Row) (i : ℕ) (r : Row) → slice_get rs i ≡ Some r → f r ≡ true → list_any f rs ≡ true
any_at f [] i r g t = absurd cc
any_at f (s ∷ rs) zero r g t = let k : s ≡ r = cc in let u : f s ≡ true = subst (λ x. f x ≡ true) (sym k) t in rw u refl
any_at f (s ∷ rs) (suc i) r g t = or_true (f s) (list_any f rs) (any_at f rs i r g t)
  where
    or_true : (a b : Bool) → b ≡ true → (a || b) ≡ true
    or_true true b e = refl
    or_true false b e = e

-- ---- a row on which all prefixes may stand, so that no prefixes are a dead end

abbrev all_repeats : Repeats → Bool
all_repeats Never = false
all_repeats F3Allowed = false
all_repeats F2F3Allowed = true
all_repeats F3Needed = false

allows_repeats : (k : Repeats) (o : Option ℕ) → all_repeats k ≡ true → allows_repeat k o ≡ true
allows_repeats Never o e = absurd cc
allows_repeats F3Allowed o e = absurd cc
allows_repeats F2F3Allowed o e = refl
allows_repeats F3Needed o e = absurd cc

abbrev takes_all : Row → Bool
takes_all r = no r.escape && (r.sized && all_repeats r.repeats)

some_takes_all : list_any takes_all table ≡ true
unfolding table
some_takes_all = refl

false_of : (b : Bool) → no b ≡ true → b ≡ false
false_of true e = absurd cc
false_of false e = refl

-- ---- after the prefixes

not_true : (b : Bool) → no b ≡ true → (P Q : Type 0) → Q → MatchBool b P Q
not_true true e P Q q = absurd cc
not_true false e P Q q = q

-- an opcode without 0F before it is no 0F
not_0F : (j : ℕ) (r : Row) (low : ℕ) → slice_get table j ≡ Some r → r.escape ≡ false → low < r.count → no (opcode r low == 0x0F) ≡ true
not_0F j r low g e lt =
    let good = subst (λ z. good_opcode z (opcode r low) ≡ true) e ((good_row j r g).opcodes low lt) in
    (and_true (no (opcode r low == 0x0F)) _ (and_true (nat_lt (opcode r low) 256) _ good).1).0

module _ (p : Prefixes) where
  some_0F : (i : ℕ) (r : Row) → slice_get table i ≡ Some r → allows_0F p r ≡ true → Reads (byte_then (row_at p true)) (ByteThen (Row_follows p true))
  some_0F i r g t =
      let a = and_true r.escape (allows r p) t in
      let good = good_row i r g in
      let o = open_at i r p 0 g a.1 good.count in
      let byte : opcode r 0 < 256 = ltb-true _ _ (subst (λ b. good_opcode b (opcode r 0) ≡ true) a.0 (good.opcodes 0 good.count)) in
      let some = some_row i r p 0 g o in
      reads_byte (row_at p true) (Row_follows p true) (λ op. reads_row p true op) (opcode r 0) byte
      (subst (λ b. Some_of (Row_follows p b (opcode r 0))) a.0 some)

  no_0F : list_any (allows_0F p) table ≡ false → (s : List ℕ) (i : Inst) → ByteThen (Row_follows p true) s i → ⊥
  no_0F e [] i h = h
  no_0F e (op ∷ s) i h =
      let t : allows_0F p h.r ≡ true = true_and h.r.escape (allows h.r p) h.opened.escape_is h.opened.allowed in
      let k : list_any (allows_0F p) table ≡ true = any_at (allows_0F p) table h.place h.r h.listed t in
      cc

  reads_0F : (b : Bool) → list_any (allows_0F p) table ≡ b → Reads (λ y. cond b (byte_then (row_at p true) y) (Err Bad)) (ByteThen (Row_follows p true))
  reads_0F true e = let a = any_of (allows_0F p) table e in some_0F a.0 a.1 a.2 a.3
  reads_0F false e = reads_as (λ x. Err Bad) (λ s a. ⊥) (ByteThen (Row_follows p true)) reads_fail (λ s a h. absurd h) (λ s a h. no_0F e s a h)

  -- the bytes from an opcode byte on
  abbrev From_byte : ℕ → List ℕ → Inst → Type 0
  From_byte b s i = MatchBool (b == 0x0F) (ByteThen (Row_follows p true) s i) (Row_follows p false b s i)

  abbrev byte_at : ℕ → List ℕ → Read Inst
  byte_at b y = cond (b == 0x0F) (cond (list_any (allows_0F p) table) (byte_then (row_at p true) y) (Err Bad)) (row_at p false b y)

  reads_from_byte : (b : ℕ) → Reads (byte_at b) (From_byte b)
  reads_from_byte b =
      reads_if (b == 0x0F) (λ y. cond (list_any (allows_0F p) table) (byte_then (row_at p true) y) (Err Bad)) (row_at p false b)
      (ByteThen (Row_follows p true)) (Row_follows p false b) (reads_0F (list_any (allows_0F p) table) refl) (reads_row p false b)

  -- the byte of that row, with what follows it
  record Beginning : Type 0 where
    b : ℕ
    small : b < 256
    some : Some_of (From_byte b)

  beginning_of : (j : ℕ) (r : Row) → slice_get table j ≡ Some r → takes_all r ≡ true → Beginning
  beginning_of j r g t =
      let u = and_true (no r.escape) (r.sized && all_repeats r.repeats) t in
      let v = and_true r.sized (all_repeats r.repeats) u.1 in
      let plain = false_of r.escape u.0 in
      let good = good_row j r g in
      let allowed = true_and (allows_size r.sized p.size) (allows_repeat r.repeats p.repeat) (subst (λ z. allows_size z p.size ≡ true) (sym v.0) (allows_sized p.size)) (allows_repeats r.repeats p.repeat v.1) in
      let z = some_row j r p 0 g (open_at j r p 0 g allowed good.count) in
      record {
        b = opcode r 0;
        small = ltb-true _ _ (and_true (nat_lt (opcode r 0) 256) _ (subst (λ z. good_opcode z (opcode r 0) ≡ true) plain (good.opcodes 0 good.count))).0;
        some = record {
          s = z.s;
          a = z.a;
          are_bytes = z.are_bytes;
          holds = not_true (opcode r 0 == 0x0F) (not_0F j r 0 g plain good.count) (ByteThen (Row_follows p true) z.s z.a) (Row_follows p false (opcode r 0) z.s z.a) (subst (λ e. Row_follows p e (opcode r 0) z.s z.a) plain z.holds);
        };
      }

  beginning : Beginning
  beginning = let a = any_of takes_all table some_takes_all in beginning_of a.0 a.1 a.2 a.3

  follows_to : (s : List ℕ) (i : Inst) → ByteThen From_byte s i → Follows p s i
  follows_to [] i h = absurd h
  follows_to (b ∷ s) i h = at (b == 0x0F) refl s h
    where
      at : (t : Bool) → (b == 0x0F) ≡ t → (s : List ℕ) → MatchBool t (ByteThen (Row_follows p true) s i) (Row_follows p false b s i) → Follows p (b ∷ s) i
      at true e [] h = absurd h
      at true e (op ∷ s) h =
          let pl = place_some h.r op h.low h.opened.place_of in
          record {
            r = h.r;
            place = h.place;
            low = h.low;
            rest = s;
            listed = h.listed;
            allowed = h.opened.allowed;
            within = pl.within;
            bytes = rw (eqb-true b 0x0F e, h.opened.escape_is, pl.op_is) refl;
            operands = h.operands;
          }
      at false e s h =
          let pl = place_some h.r b h.low h.opened.place_of in
          record {
            r = h.r;
            place = h.place;
            low = h.low;
            rest = s;
            listed = h.listed;
            allowed = h.opened.allowed;
            within = pl.within;
            bytes = rw (h.opened.escape_is, pl.op_is) refl;
            operands = h.operands;
          }

  follows_from : (s : List ℕ) (i : Inst) → Follows p s i → ByteThen From_byte s i
  follows_from s i h = at h.r.escape refl
    where
      rows : (b : Bool) → h.r.escape ≡ b → Row_follows p b (opcode h.r h.low) h.rest i
      rows b e = subst (λ z. Row_follows p z (opcode h.r h.low) h.rest i) e (record { r = h.r; place = h.place; low = h.low; listed = h.listed; opened = open_at h.place h.r p h.low h.listed h.allowed h.within; operands = h.operands })

      at : (b : Bool) → h.r.escape ≡ b → ByteThen From_byte s i
      at true e =
          let bytes : s ≡ 0x0F ∷ opcode h.r h.low ∷ h.rest = h.bytes ∙ ap (λ z. opcode_bytes z (opcode h.r h.low) ++ h.rest) e in
          subst (λ l. ByteThen From_byte l i) (sym bytes) (rows true e)
      at false e =
          let bytes : s ≡ opcode h.r h.low ∷ h.rest = h.bytes ∙ ap (λ z. opcode_bytes z (opcode h.r h.low) ++ h.rest) e in
          subst (λ l. ByteThen From_byte l i) (sym bytes)
          (not_true (opcode h.r h.low == 0x0F) (not_0F h.place h.r h.low h.listed e h.within) (ByteThen (Row_follows p true) h.rest i) (Row_follows p false (opcode h.r h.low) h.rest i) (rows false e))

  pub reads_follows : Reads (follows_at p) (Follows p)
  unfolding follows_at
  reads_follows =
      reads_as (byte_then byte_at) (ByteThen From_byte) (Follows p)
      (reads_byte byte_at From_byte reads_from_byte beginning.b beginning.small beginning.some)
      follows_to follows_from

  pub some_follows : Some_of (Follows p)
  some_follows =
      record { s = beginning.b ∷ beginning.some.s; a = beginning.some.a; are_bytes = (beginning.small, beginning.some.are_bytes); holds = follows_to (beginning.b ∷ beginning.some.s) beginning.some.a beginning.some.holds }
