-- A reader and the strings that it reads.
use Rattle.std.proofs.Common.{◌≡◌, ℕ, zero, suc, ◌-◌, ◌<◌, ◌≤◌, Bool, true, false, cond, ltb, List, [], ◌∷◌, ◌++◌, length, take, drop, Result, Ok, Err, refl, sym, ap, subst, ◌∙◌, append_assoc, arith, length-append}
use Rattle.std.specs.Prelude.{MatchBool}
use Rattle.std.proofs.lemmas.Bool.{ltb-false, le-ltb, ltb-true}
use Rattle.std.proofs.lemmas.List.{take_at, drop_at, take-append-drop, length-take, append-nil}
use Rattle.x86_inst.specs.Spelling.{AreBytes}
use Rattle.x86_decode.specs.declared.fields.Stop.{Stop}
use Rattle.x86_decode.specs.declared.fields.Stop.TheVariants.{Cut, Bad}
use Rattle.x86_decode.specs.Reading.{Read, ◌>>=◌, bytes_at, byte_then}

-- P reads the strings of R, whatever follows; it says Cut where a string of R goes on, and stays at Bad.
pub record Reads {A : Type 0} (P : List ℕ → Read A) (R : List ℕ → A → Type 0) : Type 0 where
  pub complete : (s : List ℕ) (a : A) → R s a → (y : List ℕ) → P (s ++ y) ≡ Ok (a, y)
  pub sound : (x : List ℕ) (a : A) (y : List ℕ) → P x ≡ Ok (a, y) → (s : List ℕ) × (x ≡ s ++ y) × R s a
  pub cut : (x : List ℕ) → P x ≡ Err Cut → (y : List ℕ) × AreBytes y × (a : A) × R (x ++ y) a
  pub bad : (x : List ℕ) → P x ≡ Err Bad → (y : List ℕ) → P (x ++ y) ≡ Err Bad

-- some string of bytes is in R
pub record Some_of {A : Type 0} (R : List ℕ → A → Type 0) : Type 0 where
  pub s : List ℕ
  pub a : A
  pub are_bytes : AreBytes s
  pub holds : R s a

pub AreBytes-append : (x y : List ℕ) → AreBytes x → AreBytes y → AreBytes (x ++ y)
AreBytes-append [] y h k = k
AreBytes-append (b ∷ x) y h k = (h.0, AreBytes-append x y h.1 k)

-- ---- results

ok_of : {A : Type 0} → A → Result A Stop
ok_of x = Ok x

abbrev done : {A : Type 0} → A → Result A Stop
done x = Ok x

abbrev stopped : {A : Type 0} → Stop → Result A Stop
stopped e = Err e

pub ok_is : {A : Type 0} (x y : A) → done x ≡ done y → x ≡ y
ok_is x y e = cc

pub bind_ok : {A B : Type 0} (r : Result A Stop) (f : A → Result B Stop) (y : B) → (r >>= f) ≡ Ok y → (x : A) × (r ≡ Ok x) × (f x ≡ Ok y)
bind_ok (Ok x) f y e = (x, refl, e)
bind_ok (Err d) f y e = absurd cc

-- a step that stopped, or one after it
pub data Stopped {A B : Type 0} (r : Result A Stop) (f : A → Result B Stop) (d : Stop) : Type 0 where
  first : r ≡ Err d → Stopped r f d
  later : (x : A) → r ≡ Ok x → f x ≡ Err d → Stopped r f d

pub bind_err : {A B : Type 0} (r : Result A Stop) (f : A → Result B Stop) (d : Stop) → (r >>= f) ≡ Err d → Stopped r f d
bind_err (Ok x) f d e = later x refl e
bind_err (Err c) f d e = first (let k : c ≡ d = cc in ap (λ (z : Stop). Err z) k)

-- ---- some bytes

zeros : ℕ → List ℕ
zeros zero = []
zeros (suc n) = 0 ∷ zeros n

zeros_bytes : (n : ℕ) → AreBytes (zeros n)
unfolding zeros
zeros_bytes zero = tt
zeros_bytes (suc n) = (omega arith, zeros_bytes n)

zeros_length : (n : ℕ) → length (zeros n) ≡ n
unfolding zeros
zeros_length zero = refl
zeros_length (suc n) = ap suc (zeros_length n)

abbrev pub HasLength : ℕ → List ℕ → List ℕ → Type 0
HasLength n s d = (d ≡ s) × (length s ≡ n)

guard_ok : {A : Type 0} (b : Bool) (d : Stop) (x y : A) → cond b (Err d) (Ok x) ≡ Ok y → (b ≡ false) × (x ≡ y)
guard_ok true d x y e = absurd cc
guard_ok false d x y e = (refl, cc)

guard_err : {A : Type 0} (b : Bool) (d c : Stop) (x : A) → cond b (Err d) (done x) ≡ Err c → (b ≡ true) × (d ≡ c)
guard_err true d c x e = (refl, cc)
guard_err false d c x e = absurd cc

pub reads_bytes : (n : ℕ) → Reads (bytes_at n) (HasLength n)
reads_bytes n = record {
  complete = λ s a h y.
      let long : ltb (length (s ++ y)) n ≡ false = le-ltb _ _ (omega (arith, length-append s y, h.1)) in
      rw (long, take_at s y n h.1, drop_at s y n h.1, h.0) refl;
  sound = λ x a y e.
      let g = guard_ok (ltb (length x) n) Cut (take n x, drop n x) (a, y) e in
      let long : n ≤ length x = ltb-false _ _ g.0 in
      let a-is : take n x ≡ a = ap (λ (p : List ℕ × List ℕ). p.0) g.1 in
      let y-is : drop n x ≡ y = ap (λ (p : List ℕ × List ℕ). p.1) g.1 in
      (take n x, rw (← y-is) (sym (take-append-drop n x)), (sym a-is, omega (arith, length-take n x)));
  cut = λ x e.
      let g = guard_err (ltb (length x) n) Cut Cut (take n x, drop n x) e in
      let short : length x < n = ltb-true _ _ g.0 in
      (zeros (n - length x), zeros_bytes (n - length x), x ++ zeros (n - length x), (refl, omega (arith, length-append x (zeros (n - length x)), zeros_length (n - length x))));
  bad = λ x e y. let g = guard_err (ltb (length x) n) Cut Bad (take n x, drop n x) e in absurd (let k : Cut ≡ Bad = g.1 in cc);
}

pub some_bytes : (n : ℕ) → Some_of (HasLength n)
some_bytes n = record { s = zeros n; a = zeros n; are_bytes = zeros_bytes n; holds = (refl, zeros_length n) }

-- ---- one after the other

pub reads_done : {A : Type 0} (a : A) → Reads (λ x. Ok (a, x)) (λ s b. (s ≡ []) × (b ≡ a))
reads_done {A} a = record {
  complete = λ s b h y. rw (h.0, h.1) refl;
  sound = λ x b y e.
      let k = ok_is (a, x) (b, y) e in
      ([], ap (λ (p : A × List ℕ). p.1) k, (refl, sym (ap (λ (p : A × List ℕ). p.0) k)));
  cut = λ x e. absurd cc;
  bad = λ x e y. absurd cc;
}

pub reads_fail : {A : Type 0} → Reads {A = A} (λ x. Err Bad) (λ s a. ⊥)
reads_fail {A} = record {
  complete = λ s b h y. absurd h;
  sound = λ x b y e. absurd cc;
  cut = λ x e. absurd cc;
  bad = λ x e y. refl;
}

-- a string of R with its value a, and a string of S a
pub record Then {A B : Type 0} (R : List ℕ → A → Type 0) (S : A → List ℕ → B → Type 0) (s : List ℕ) (b : B) : Type 0 where
  pub front : List ℕ
  pub back : List ℕ
  pub value : A
  pub parts : s ≡ front ++ back
  pub first : R front value
  pub second : S value back b

module _ {A B : Type 0} (P : List ℕ → Read A) (R : List ℕ → A → Type 0) (Q : A → List ℕ → Read B) (S : A → List ℕ → B → Type 0) where
  abbrev after : A × List ℕ → Read B
  after p = Q p.0 p.1

  pub reads_then : Reads P R → ((a : A) → Reads (Q a) (S a)) → ((a : A) → Some_of (S a)) → Reads (λ x. P x >>= λ a. Q a.0 a.1) (Then R S)
  reads_then p q some = record {
    complete = λ s b h y.
        let e : s ++ y ≡ h.front ++ (h.back ++ y) = ap (λ (l : List ℕ). l ++ y) h.parts ∙ append_assoc h.front h.back y in
        let f : P (s ++ y) ≡ Ok (h.value, h.back ++ y) = ap P e ∙ p.complete h.front h.value h.first (h.back ++ y) in
        ap (λ (r : Read A). r >>= after) f ∙ (q h.value).complete h.back b h.second y;
    sound = λ x b y e.
        let k = bind_ok (P x) after (b, y) e in
        let f = p.sound x k.0.0 k.0.1 k.1 in
        let g = (q k.0.0).sound k.0.1 b y k.2 in (
          f.0 ++ g.0,
          f.1 ∙ ap (λ (l : List ℕ). f.0 ++ l) g.1 ∙ sym (append_assoc f.0 g.0 y),
          record { front = f.0; back = g.0; value = k.0.0; parts = refl; first = f.2; second = g.2 },
        );
    cut = λ x e.
        elim (bind_err (P x) after Cut e) [
          | first k ↦
              let f = p.cut x k in
              let o = some f.2 in (
                f.0 ++ o.s,
                AreBytes-append f.0 o.s f.1 o.are_bytes,
                o.a,
                record { front = x ++ f.0; back = o.s; value = f.2; parts = sym (append_assoc x f.0 o.s); first = f.3; second = o.holds },
              )
          | later a k l ↦
              let f = p.sound x a.0 a.1 k in
              let g = (q a.0).cut a.1 l in (
                g.0,
                g.1,
                g.2,
                record { front = f.0; back = a.1 ++ g.0; value = a.0; parts = ap (λ (l : List ℕ). l ++ g.0) f.1 ∙ append_assoc f.0 a.1 g.0; first = f.2; second = g.3 },
              )
        ];
    bad = λ x e y.
        elim (bind_err (P x) after Bad e) [
          | first k ↦ ap (λ (r : Read A). r >>= after) (p.bad x k y)
          | later a k l ↦
              let f = p.sound x a.0 a.1 k in
              let m : x ++ y ≡ f.0 ++ (a.1 ++ y) = ap (λ (l : List ℕ). l ++ y) f.1 ∙ append_assoc f.0 a.1 y in
              ap (λ (r : Read A). r >>= after) (ap P m ∙ p.complete f.0 a.0 f.2 (a.1 ++ y)) ∙ (q a.0).bad a.1 l y
        ];
  }

-- the same strings under another name
pub reads_as : {A : Type 0} (P : List ℕ → Read A) (R S : List ℕ → A → Type 0) → Reads P R → ((s : List ℕ) (a : A) → R s a → S s a) → ((s : List ℕ) (a : A) → S s a → R s a) → Reads P S
reads_as P R S p to from = record {
  complete = λ s a h y. p.complete s a (from s a h) y;
  sound = λ x a y e. let f = p.sound x a y e in (f.0, f.1, to f.0 a f.2);
  cut = λ x e. let f = p.cut x e in (f.0, f.1, f.2, to (x ++ f.0) f.2 f.3);
  bad = p.bad;
}

-- a value of what is read
pub reads_map : {A B : Type 0} (P : List ℕ → Read A) (R : List ℕ → A → Type 0) (f : A → B) → Reads P R → Reads (λ x. P x >>= λ a. Ok (f a.0, a.1)) (λ s b. (a : A) × R s a × (b ≡ f a))
reads_map {A} {B} P R f p =
    let S : A → List ℕ → B → Type 0 = λ a s b. (s ≡ []) × (b ≡ f a) in
    let some : (a : A) → Some_of (S a) = λ a. record { s = []; a = f a; are_bytes = tt; holds = (refl, refl) } in
    reads_as (λ x. P x >>= λ a. Ok (f a.0, a.1)) (Then R S) (λ s b. (a : A) × R s a × (b ≡ f a))
    (reads_then P R (λ a x. Ok (f a, x)) S p (λ a. reads_done (f a)) some)
    (λ s b h.
    let e : s ≡ h.front = h.parts ∙ ap (λ (l : List ℕ). h.front ++ l) h.second.0 ∙ append-nil h.front in
    (h.value, subst (λ (l : List ℕ). R l h.value) (sym e) h.first, h.second.1))
    (λ s b h. record { front = s; back = []; value = h.0; parts = sym (append-nil s); first = h.1; second = (refl, h.2) })

-- ---- a choice, and a byte

pub reads_if : {A : Type 0} (b : Bool) (P Q : List ℕ → Read A) (R S : List ℕ → A → Type 0) → Reads P R → Reads Q S → Reads (λ x. cond b (P x) (Q x)) (λ s a. MatchBool b (R s a) (S s a))
reads_if true P Q R S p q = record { complete = p.complete; sound = p.sound; cut = p.cut; bad = p.bad }
reads_if false P Q R S p q = record { complete = q.complete; sound = q.sound; cut = q.cut; bad = q.bad }

abbrev pub ByteThen : {A : Type 0} → (ℕ → List ℕ → A → Type 0) → List ℕ → A → Type 0
ByteThen S [] a = ⊥
ByteThen S (b ∷ s) a = S b s a

module _ {A : Type 0} (f : ℕ → List ℕ → Read A) (S : ℕ → List ℕ → A → Type 0) where
  byte_complete : ((b : ℕ) → Reads (f b) (S b)) → (s : List ℕ) (a : A) → ByteThen S s a → (y : List ℕ) → byte_then f (s ++ y) ≡ Ok (a, y)
  byte_complete q [] a h y = absurd h
  byte_complete q (b ∷ s) a h y = (q b).complete s a h y

  byte_sound : ((b : ℕ) → Reads (f b) (S b)) → (x : List ℕ) (a : A) (y : List ℕ) → byte_then f x ≡ Ok (a, y) → (s : List ℕ) × (x ≡ s ++ y) × ByteThen S s a
  byte_sound q [] a y e = absurd cc
  byte_sound q (b ∷ x) a y e = let g = (q b).sound x a y e in (b ∷ g.0, ap (λ (l : List ℕ). b ∷ l) g.1, g.2)

  byte_cut : ((b : ℕ) → Reads (f b) (S b)) → (b : ℕ) → b < 256 → Some_of (S b) → (x : List ℕ) → byte_then f x ≡ Err Cut → (y : List ℕ) × AreBytes y × (a : A) × ByteThen S (x ++ y) a
  byte_cut q b lt some [] e = (b ∷ some.s, (lt, some.are_bytes), some.a, some.holds)
  byte_cut q b lt some (c ∷ x) e = (q c).cut x e

  byte_bad : ((b : ℕ) → Reads (f b) (S b)) → (x : List ℕ) → byte_then f x ≡ Err Bad → (y : List ℕ) → byte_then f (x ++ y) ≡ Err Bad
  byte_bad q [] e y = absurd cc
  byte_bad q (b ∷ x) e y = (q b).bad x e y

  -- b begins some string
  pub reads_byte : ((b : ℕ) → Reads (f b) (S b)) → (b : ℕ) → b < 256 → Some_of (S b) → Reads (byte_then f) (ByteThen S)
  reads_byte q b lt some = record { complete = byte_complete q; sound = byte_sound q; cut = byte_cut q b lt some; bad = byte_bad q }
