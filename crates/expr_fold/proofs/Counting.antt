-- Reads that are noted one after another.
use Rattle.std.proofs.Common.{◌≡◌, ℕ, suc, ◌+◌, ◌<◌, ◌≤◌, Bool, true, false, cond, nat_eq, nat_le, List, [], ◌∷◌, drop, length, get_or, refl, sym, ap, subst, ◌∙◌, arith, rules}
use Rattle.std.proofs.Math.Seq.{drop-cons}
use Rattle.std.proofs.Math.ListN.{drop_of_length-le}
use Rattle.std.specs.Ordering.{nat_cmp, is_eq}
use Rattle.std.specs.BTreeSet as set
use Rattle.std.specs.BTreeSet.{BTreeSet}
use Rattle.dream_words.specs.declared.machine.Name.{Name}
use Rattle.dream_words.specs.declared.machine.Name.TheVariants as name
use Rattle.c_syntax.specs.declared.syntax.CBin.{CBin}
use Rattle.c_syntax.specs.declared.syntax.CCmp.{CCmp}
use Rattle.c_syntax.specs.declared.syntax.CFn1.{CFn1}
use Rattle.c_syntax.specs.declared.syntax.CFn2.{CFn2}
use Rattle.c_syntax.specs.declared.syntax.CFn3.{CFn3}
use Rattle.c_syntax.specs.declared.syntax.CExpr as words
use Rattle.c_syntax.specs.declared.syntax.CExpr.{CExpr, CExpr-F, roll-CExpr}
use Rattle.c_syntax.specs.declared.syntax.CExpr.TheVariants as word
use Rattle.c_syntax.specs.declared.syntax.CCond as conds
use Rattle.c_syntax.specs.declared.syntax.CCond.TheVariants as test
use Rattle.c_syntax.specs.declared.syntax.CCond.{CCond, CCond-F, roll-CCond}
use Rattle.micro_ir.specs.declared.flow.Stmt.{Stmt}
use Rattle.micro_ir.specs.declared.flow.End.{End as BlockEnd}
use Rattle.micro_ir.specs.declared.flow.Block.{Block}
use Rattle.flow_passes.specs.Uses.{same_name}
use Rattle.expr_fold.specs.declared.counts.Reads.{Reads}
use Rattle.expr_fold.specs.Counts.{Counts, count_in_word, count_in_cond, count_in_word_at, count_in_cond_at, reads_of_stmt, reads_of_end, reads_of_rest, reads_of}
use Rattle.expr_fold.specs.Counted.{Counted, Notes}
use Rattle.expr_fold.proofs.Named.{number_same, same_true}
use Rattle.expr_fold.proofs.Weighing.{count_layer, cond_count_layer}

-- what is noted of a count is noted of an equal one
pub counted_same : (r : Reads) (b c : Counts) → ((t : ℕ) → b (name.T t) ≡ c (name.T t)) → Counted r b → Counted r c
counted_same r b c e h = record { some = λ t. h.some t ∙ ap (nat_le 1) (e t); more = λ t. h.more t ∙ ap (nat_le 2) (e t) }

-- some reads, and then others
pub notes_two : (c d : Counts) (x y z : Reads) → Notes c x y → Notes d y z → Notes (λ n. c n + d n) x z
notes_two c d x y z p q = record { of = λ b h. counted_same z (λ n. (b n + c n) + d n) (λ n. b n + (c n + d n)) (λ t. omega arith) (q.of (λ n. b n + c n) (p.of b h)) }

pub notes_three : (c d e : Counts) (x y z v : Reads) → Notes c x y → Notes d y z → Notes e z v → Notes (λ n. c n + (d n + e n)) x v
notes_three c d e x y z v p q k = notes_two c (λ n. d n + e n) x y v p (notes_two d e y z v q k)

-- the reads of a Word, and of a Cond, by its layer
word_layer : (y : CExpr-F CCond CExpr) (e : CExpr) (x z : Reads) → e ≡ roll-CExpr y → Notes (count_in_word_at (words.map-CExpr CCond CExpr Counts Counts count_in_cond count_in_word y)) x z → Notes (count_in_word e) x z
word_layer y e x z i p = subst (λ (k : CExpr). Notes (count_in_word k) x z) (sym i) (subst (λ (r : Counts). Notes r x z) (sym (count_layer y)) p)

cond_layer : (y : CCond-F CCond CExpr) (t : CCond) (x z : Reads) → t ≡ roll-CCond y → Notes (count_in_cond_at (conds.map-CCond CCond CExpr Counts Counts count_in_cond count_in_word y)) x z → Notes (count_in_cond t) x z
cond_layer y t x z i p = subst (λ (k : CCond). Notes (count_in_cond k) x z) (sym i) (subst (λ (r : Counts). Notes r x z) (sym (cond_count_layer y)) p)

-- what is noted of a Word, and of a Cond, is so of an equal one
word_is : (a b : CExpr) (x y : Reads) → b ≡ a → Notes (count_in_word b) x y → Notes (count_in_word a) x y
word_is a b x y i p = subst (λ (k : CExpr). Notes (count_in_word k) x y) i p

cond_is : (a b : CCond) (x y : Reads) → b ≡ a → Notes (count_in_cond b) x y → Notes (count_in_cond a) x y
cond_is a b x y i p = subst (λ (k : CCond). Notes (count_in_cond k) x y) i p

pub nothing_more : (x : Reads) → Notes (λ n. 0) x x
nothing_more x = record { of = λ b h. counted_same x b (λ n. b n + 0) (λ t. omega arith) h }

-- the reads of Words by their parts
pub notes_num : (n : ℕ) (e : CExpr) (x : Reads) → e ≡ (words.Num n) → Notes (count_in_word e) x x
notes_num n e x i = word_layer (CExpr-F.Num n) e x x (i ∙ sym (word.rolls-Num n)) (nothing_more x)

pub notes_name : (n : Name) (e : CExpr) (x y : Reads) → e ≡ (words.Name n) → Notes (λ m. cond (same_name n m) 1 0) x y → Notes (count_in_word e) x y
notes_name n e x y i p = word_layer (CExpr-F.Name n) e x y (i ∙ sym (word.rolls-Name n)) p

pub notes_not : (a b e : CExpr) (x y : Reads) → e ≡ (words.Not a) → b ≡ a → Notes (count_in_word b) x y → Notes (count_in_word e) x y
notes_not a b e x y i j p = word_layer (CExpr-F.«CExpr::Not» a) e x y (i ∙ sym (word.rolls-Not a)) (word_is a b x y j p)

pub notes_fn1 : (f : CFn1) (a b e : CExpr) (x y : Reads) → e ≡ (words.Fn1 f a) → b ≡ a → Notes (count_in_word b) x y → Notes (count_in_word e) x y
notes_fn1 f a b e x y i j p = word_layer (CExpr-F.Fn1 f a) e x y (i ∙ sym (word.rolls-Fn1 f a)) (word_is a b x y j p)

pub notes_bin : (f : CBin) (a b c d e : CExpr) (x y z : Reads) → e ≡ (words.Bin f a b) → c ≡ a → d ≡ b → Notes (count_in_word c) x y → Notes (count_in_word d) y z → Notes (count_in_word e) x z
notes_bin f a b c d e x y z h i j p q = word_layer (CExpr-F.Bin f a b) e x z (h ∙ sym (word.rolls-Bin f a b)) (notes_two (count_in_word a) (count_in_word b) x y z (word_is a c x y i p) (word_is b d y z j q))

pub notes_fn2 : (f : CFn2) (a b c d e : CExpr) (x y z : Reads) → e ≡ (words.Fn2 f a b) → c ≡ a → d ≡ b → Notes (count_in_word c) x y → Notes (count_in_word d) y z → Notes (count_in_word e) x z
notes_fn2 f a b c d e x y z h i j p q = word_layer (CExpr-F.Fn2 f a b) e x z (h ∙ sym (word.rolls-Fn2 f a b)) (notes_two (count_in_word a) (count_in_word b) x y z (word_is a c x y i p) (word_is b d y z j q))

pub notes_fn3 : (f : CFn3) (a b c a' b' c' e : CExpr) (x y z v : Reads) → e ≡ (words.Fn3 f a b c) → a' ≡ a → b' ≡ b → c' ≡ c → Notes (count_in_word a') x y → Notes (count_in_word b') y z → Notes (count_in_word c') z v → Notes (count_in_word e) x v
notes_fn3 f a b c a' b' c' e x y z v h i j l p q r =
    word_layer (CExpr-F.Fn3 f a b c) e x v (h ∙ sym (word.rolls-Fn3 f a b c))
    (notes_three (count_in_word a) (count_in_word b) (count_in_word c) x y z v (word_is a a' x y i p) (word_is b b' y z j q) (word_is c c' z v l r))

pub notes_pick : (t u : CCond) (a b c d e : CExpr) (x y z v : Reads) → e ≡ (words.Pick t a b) → u ≡ t → c ≡ a → d ≡ b → Notes (count_in_cond u) x y → Notes (count_in_word c) y z → Notes (count_in_word d) z v → Notes (count_in_word e) x v
notes_pick t u a b c d e x y z v h i j l p q r =
    word_layer (CExpr-F.Pick t a b) e x v (h ∙ sym (word.rolls-Pick t a b))
    (notes_three (count_in_cond t) (count_in_word a) (count_in_word b) x y z v (cond_is t u x y i p) (word_is a c y z j q) (word_is b d z v l r))

-- the reads of Conds by their parts
pub notes_cmp : (f : CCmp) (a b : CExpr) (t : CCond) (x y z : Reads) → t ≡ (conds.Cmp f a b) → Notes (count_in_word a) x y → Notes (count_in_word b) y z → Notes (count_in_cond t) x z
notes_cmp f a b t x y z h p q = cond_layer (CCond-F.Cmp f a b) t x z (h ∙ sym (test.rolls-Cmp f a b)) (notes_two (count_in_word a) (count_in_word b) x y z p q)

pub notes_cond_not : (a b t : CCond) (x y : Reads) → t ≡ (conds.Not a) → b ≡ a → Notes (count_in_cond b) x y → Notes (count_in_cond t) x y
notes_cond_not a b t x y i j p = cond_layer (CCond-F.«CCond::Not» a) t x y (i ∙ sym (test.rolls-Not a)) (cond_is a b x y j p)

pub notes_and : (a b c d t : CCond) (x y z : Reads) → t ≡ (conds.And a b) → c ≡ a → d ≡ b → Notes (count_in_cond c) x y → Notes (count_in_cond d) y z → Notes (count_in_cond t) x z
notes_and a b c d t x y z h i j p q = cond_layer (CCond-F.And a b) t x z (h ∙ sym (test.rolls-And a b)) (notes_two (count_in_cond a) (count_in_cond b) x y z (cond_is a c x y i p) (cond_is b d y z j q))

pub notes_or : (a b c d t : CCond) (x y z : Reads) → t ≡ (conds.Or a b) → c ≡ a → d ≡ b → Notes (count_in_cond c) x y → Notes (count_in_cond d) y z → Notes (count_in_cond t) x z
notes_or a b c d t x y z h i j p q = cond_layer (CCond-F.Or a b) t x z (h ∙ sym (test.rolls-Or a b)) (notes_two (count_in_cond a) (count_in_cond b) x y z (cond_is a c x y i p) (cond_is b d y z j q))

-- ---- one temporary

compared : (t q : ℕ) → is_eq (nat_cmp t q) ≡ nat_eq t q
compared t q = search (rules, arith)

noted_some : (i j s s' : Bool) (k : ℕ) → i ≡ j → s' ≡ cond i true s → s ≡ nat_le 1 k → s' ≡ nat_le 1 (k + cond j 1 0)
noted_some true true s s' k e p q = p ∙ grind arith
noted_some true false s s' k e p q = absurd (let z : ⊥ = cc in z)
noted_some false true s s' k e p q = absurd (let z : ⊥ = cc in z)
noted_some false false s s' k e p q = p ∙ q ∙ ap (nat_le 1) (omega arith)

noted_first : (j m : Bool) (k : ℕ) → (j ≡ true → k ≡ 0) → m ≡ nat_le 2 k → m ≡ nat_le 2 (k + cond j 1 0)
noted_first true m k f p = let z = f refl in p ∙ grind (arith, z)
noted_first false m k f p = p ∙ ap (nat_le 2) (omega arith)

noted_again : (i j m m' : Bool) (k : ℕ) → i ≡ j → (j ≡ true → 1 ≤ k) → m' ≡ cond i true m → m ≡ nat_le 2 k → m' ≡ nat_le 2 (k + cond j 1 0)
noted_again true true m m' k e f p q = let z = f refl in p ∙ grind (arith, z)
noted_again true false m m' k e f p q = absurd (let z : ⊥ = cc in z)
noted_again false true m m' k e f p q = absurd (let z : ⊥ = cc in z)
noted_again false false m m' k e f p q = p ∙ q ∙ ap (nat_le 2) (omega arith)

none_yet : (s : Bool) (k : ℕ) → s ≡ nat_le 1 k → s ≡ false → k ≡ 0
none_yet s k p q = grind (arith, p, q)

some_yet : (s : Bool) (k : ℕ) → s ≡ nat_le 1 k → s ≡ true → 1 ≤ k
some_yet s k p q = grind (arith, p, q)

-- one key is inserted
abbrev pub Inserts : BTreeSet ℕ → BTreeSet ℕ → ℕ → Type 0
Inserts x y t = (q : ℕ) → set.contains nat_cmp y q ≡ cond (is_eq (nat_cmp t q)) true (set.contains nat_cmp x q)

-- the first read of a temporary
pub notes_first : (t : ℕ) (x y : Reads) → Inserts x.some y.some t → y.more ≡ x.more → set.contains nat_cmp x.some t ≡ false → Notes (λ n. cond (same_name (name.T t) n) 1 0) x y
notes_first t x y i e f = record {
  of = λ b h. record {
    some = λ q. noted_some (is_eq (nat_cmp t q)) (nat_eq t q) (set.contains nat_cmp x.some q) (set.contains nat_cmp y.some q) (b (name.T q)) (compared t q) (i q) (h.some q);
    more = λ q. ap (λ s. set.contains nat_cmp s q) e ∙ noted_first (nat_eq t q) (set.contains nat_cmp x.more q) (b (name.T q)) (λ g. subst (λ k. b (name.T k) ≡ 0) (number_same t q g) (none_yet (set.contains nat_cmp x.some t) (b (name.T t)) (h.some t) f)) (h.more q);
  };
}

-- another one
pub notes_again : (t : ℕ) (x y : Reads) → Inserts x.some y.some t → Inserts x.more y.more t → set.contains nat_cmp x.some t ≡ true → Notes (λ n. cond (same_name (name.T t) n) 1 0) x y
notes_again t x y i j f = record {
  of = λ b h. record {
    some = λ q. noted_some (is_eq (nat_cmp t q)) (nat_eq t q) (set.contains nat_cmp x.some q) (set.contains nat_cmp y.some q) (b (name.T q)) (compared t q) (i q) (h.some q);
    more = λ q. noted_again (is_eq (nat_cmp t q)) (nat_eq t q) (set.contains nat_cmp x.more q) (set.contains nat_cmp y.more q) (b (name.T q)) (compared t q) (λ g. subst (λ k. 1 ≤ b (name.T k)) (number_same t q g) (some_yet (set.contains nat_cmp x.some t) (b (name.T t)) (h.some t) f)) (j q) (h.more q);
  };
}

-- a read of no temporary
pub notes_other : (m : Name) (x : Reads) → ((t : ℕ) → m ≡ name.T t → ⊥) → Notes (λ n. cond (same_name m n) 1 0) x x
notes_other m x h = record { of = λ b g. counted_same x b (λ n. b n + cond (same_name m n) 1 0) (λ t. apart (same_name m (name.T t)) (b (name.T t)) (λ e. h t (same_true m (name.T t) e))) g } where
  apart : (b : Bool) (k : ℕ) → (b ≡ true → ⊥) → k ≡ k + cond b 1 0
  apart true k f = absurd (f refl)
  apart false k f = omega arith

-- ---- lists

-- What is noted of the rest of some statements is noted of all.
abbrev pub NotesRest : List Stmt → BlockEnd → ℕ → Reads → Reads → Type 0
NotesRest ss e i first now = (z : Reads) → Notes (reads_of_rest (drop i ss) e) now z → Notes (reads_of_rest ss e) first z

pub rest_noted : (ss : List Stmt) (e : BlockEnd) (i : ℕ) (s : Stmt) (first x y : Reads) → i < length ss → s ≡ get_or ss i s → Notes (reads_of_stmt s) x y → NotesRest ss e i first x → NotesRest ss e (i + 1) first y
rest_noted ss e i s first x y l at n h z m =
    h z (subst (λ r. Notes (reads_of_rest r e) x z) (sym (one_dropped ss i s l at)) (notes_two (reads_of_stmt s) (reads_of_rest (drop (i + 1) ss) e) x y z n m))
  where
    one_dropped : (ss : List Stmt) (i : ℕ) (s : Stmt) → i < length ss → s ≡ get_or ss i s → drop i ss ≡ s ∷ drop (i + 1) ss
    one_dropped ss i s l at = drop-cons ss i s l ∙ ap (λ x. x ∷ drop (suc i) ss) (sym at) ∙ ap (λ j. s ∷ drop j ss) (let e : suc i ≡ i + 1 = omega arith in e)

pub end_noted : (ss : List Stmt) (e : BlockEnd) (i : ℕ) (first x y : Reads) → length ss ≤ i → Notes (reads_of_end e) x y → NotesRest ss e i first x → Notes (reads_of_rest ss e) first y
end_noted ss e i first x y l n h = h y (subst (λ r. Notes (reads_of_rest r e) x y) (sym (drop_of_length-le ss l)) n)

-- What is noted of the rest of some blocks counts all.
abbrev pub CountsRest : List Block → ℕ → Reads → Type 0
CountsRest bs i now = (z : Reads) → Notes (reads_of (drop i bs)) now z → Counted z (reads_of bs)

pub blocks_start : (bs : List Block) (x : Reads) → Counted x (λ n. 0) → CountsRest bs 0 x
blocks_start bs x h z n = counted_same z (λ k. 0 + reads_of bs k) (reads_of bs) (λ t. omega arith) (n.of (λ k. 0) h)

pub block_noted : (bs : List Block) (i : ℕ) (b : Block) (x y : Reads) → i < length bs → b ≡ get_or bs i b → Notes (reads_of_rest b.stmts b.end) x y → CountsRest bs i x → CountsRest bs (i + 1) y
block_noted bs i b x y l at n h z m =
    h z (subst (λ r. Notes (reads_of r) x z) (sym (one_dropped bs i b l at)) (notes_two (reads_of_rest b.stmts b.end) (reads_of (drop (i + 1) bs)) x y z n m))
  where
    one_dropped : (bs : List Block) (i : ℕ) (b : Block) → i < length bs → b ≡ get_or bs i b → drop i bs ≡ b ∷ drop (i + 1) bs
    one_dropped bs i b l at = drop-cons bs i b l ∙ ap (λ x. x ∷ drop (suc i) bs) (sym at) ∙ ap (λ j. b ∷ drop j bs) (let e : suc i ≡ i + 1 = omega arith in e)

pub all_noted : (bs : List Block) (i : ℕ) (x : Reads) → length bs ≤ i → CountsRest bs i x → Counted x (reads_of bs)
all_noted bs i x l h = h x (subst (λ r. Notes (reads_of r) x x) (sym (drop_of_length-le bs l)) (nothing_more x))
