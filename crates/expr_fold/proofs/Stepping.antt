-- The steps of the pass, by what their parts leave.
use Rattle.std.proofs.Common.{◌≡◌, ℕ, nat_le, List, [], ◌∷◌, ◌++◌, Some, sym, ap, ◌∙◌, subst}
use Rattle.std.specs.Prelude.{IsTrue, slice_get, remove}
use Rattle.dream_words.specs.declared.machine.Name.{Name}
use Rattle.dream_words.specs.declared.machine.Width.{Width}
use Rattle.c_syntax.specs.declared.syntax.CExpr.{CExpr, CExpr-F, roll-CExpr}
use Rattle.c_syntax.specs.Depth.{word_depth}
use Rattle.micro_ir.specs.declared.flow.Stmt.{Stmt}
use Rattle.micro_ir.specs.declared.flow.Stmt.TheVariants as stmt
use Rattle.micro_ir.specs.Rule.{is_flow_target, is_flow_word, has_flow_names}
use Rattle.c_syntax.specs.Formed.{is_word}
use Rattle.micro_ir.proofs.Values.{both_true}
use Rattle.expr_fold.specs.declared.delayed.Delayed.{Delayed}
use Rattle.expr_fold.specs.Delayed.{none_reads, without, are_flags, are_flow_delayed}
use Rattle.expr_fold.specs.Placed.{placed_word}
use Rattle.expr_fold.specs.Said.{AreSaid}
use Rattle.expr_fold.specs.Follows.{Waits, Takes, TakesInto}
use Rattle.expr_fold.specs.Fits.{word_fits}
use Rattle.expr_fold.proofs.Named.{and_true}
use Rattle.expr_fold.proofs.Placing.{word_named}
use Rattle.expr_fold.proofs.Taking.{waits_set, waits_back, takes_set, takes_load, takes_into, takes_same, takes_store, takes_ext, takes_trap}

-- what was set aside is done, and the others are said by its name
pub step_set : (new : List Stmt) (p : List Delayed) (i : ℕ) (d : Delayed) (q said : List Delayed) (new' : List Stmt) (p' : List Delayed) → slice_get p i ≡ Some d → q ≡ remove p i → AreSaid d q said
    → new' ≡ new ++ stmt.Set d.name d.word ∷ [] → p' ≡ said → Waits new p new' p'
step_set new p i d q said new' p' e f n g h =
    subst (λ x. Waits new p x p') (sym g) (subst (λ y. Waits new p (new ++ stmt.Set d.name d.word ∷ []) y) (sym h) (waits_set new p i d said e (subst (λ y. AreSaid d y said) f n)))

-- or stands at the end
pub step_back : (new : List Stmt) (p : List Delayed) (i : ℕ) (d : Delayed) (q : List Delayed) (new' : List Stmt) (p' : List Delayed) → slice_get p i ≡ Some d → q ≡ remove p i → new' ≡ new → p' ≡ q ++ d ∷ [] → Waits new p new' p'
step_back new p i d q new' p' e f g h =
    subst (λ x. Waits new p x p') (sym g) (subst (λ y. Waits new p new y) (sym (h ∙ ap (λ y. y ++ d ∷ []) f)) (waits_back new p i d e))

-- a word with others in place is one of a flow, where it fits
pub placed_flow : (p : List Delayed) (a word : CExpr) → word ≡ placed_word p a → IsTrue (word_fits word) → IsTrue (are_flow_delayed p) → IsTrue (is_flow_word a) → IsTrue (is_flow_word (placed_word p a))
placed_flow p a word e f r t =
    and_true (has_flow_names (placed_word p a)) (nat_le (word_depth (placed_word p a)) 64) (word_named p r a (both_true (has_flow_names a) (nat_le (word_depth a) 64) t).0) (subst (λ y. IsTrue (word_fits y)) e f)

pub step_take_set : (m : Name) (a word : CExpr) (new : List Stmt) (p q : List Delayed) (new' : List Stmt) (p' : List Delayed) → word ≡ placed_word p a → IsTrue (word_fits word)
    → q ≡ without m p → new' ≡ new → p' ≡ q ++ (record { name = m; word = word }) ∷ [] → Takes (stmt.Set m a) new p new' p'
step_take_set m a word new p q new' p' e f g h k =
    subst (λ x. Takes (stmt.Set m a) new p x p') (sym h)
    (subst (λ y. Takes (stmt.Set m a) new p new y) (sym (k ∙ ap (λ y. y ++ (record { name = m; word = word }) ∷ []) g ∙ ap (λ w. without m p ++ (record { name = m; word = w }) ∷ []) e))
    (λ before seen after old t s j.
    let b = both_true (is_flow_target m) (is_flow_word a) t in
    takes_set m a new p (and_true (is_flow_target m) (is_flow_word (placed_word p a)) b.0 (placed_flow p a word e f j.delayed_rule b.1)) before seen after old t s j))

pub step_take_load : (m : Name) (width : Width) (a word : CExpr) (new : List Stmt) (p q : List Delayed) (new' : List Stmt) (p' : List Delayed) → word ≡ placed_word p a → IsTrue (word_fits word)
    → q ≡ without m p → IsTrue (none_reads q m) → new' ≡ new ++ stmt.Load m width word ∷ [] → p' ≡ q → Takes (stmt.Load m width a) new p new' p'
step_take_load m width a word new p q new' p' e f g n h k =
    subst (λ x. Takes (stmt.Load m width a) new p x p') (sym (h ∙ ap (λ w. new ++ stmt.Load m width w ∷ []) e))
    (subst (λ y. Takes (stmt.Load m width a) new p (new ++ stmt.Load m width (placed_word p a) ∷ []) y) (sym (k ∙ g))
    (λ before seen after old t s j.
    let b = both_true (is_flow_target m) (is_flow_word a) t in
    takes_load m width a new p (and_true (is_flow_target m) (is_flow_word (placed_word p a)) b.0 (placed_flow p a word e f j.delayed_rule b.1)) (subst (λ y. IsTrue (none_reads y m)) g n) before seen after old t s j))

pub step_take_same : (m : Name) (a word : CExpr) (new : List Stmt) (p q : List Delayed) (new' : List Stmt) (p' : List Delayed) → word ≡ placed_word p a → word ≡ roll-CExpr (CExpr-F.Name m)
    → q ≡ without m p → new' ≡ new → p' ≡ q → Takes (stmt.Set m a) new p new' p'
step_take_same m a word new p q new' p' e f g h k =
    subst (λ x. Takes (stmt.Set m a) new p x p') (sym h) (subst (λ y. Takes (stmt.Set m a) new p new y) (sym (k ∙ g)) (takes_same m a new p (sym e ∙ f)))

pub step_take_into : (t r : Name) (width : Width) (a word said : CExpr) (new : List Stmt) (p q o : List Delayed) (new' : List Stmt) (p' : List Delayed) → IsTrue (is_flow_target r) → word ≡ placed_word p a → IsTrue (word_fits word)
    → q ≡ without t p → o ≡ without r q → IsTrue (none_reads o r) → new' ≡ new ++ stmt.Load r width word ∷ [] → said ≡ roll-CExpr (CExpr-F.Name r) → p' ≡ o ++ (record { name = t; word = said }) ∷ []
    → TakesInto (stmt.Load t width a) r new p new' p'
step_take_into t r width a word said new p q o new' p' gr e f g g2 n h i k =
    let whole : o ≡ without r (without t p) = g2 ∙ ap (without r) g in
    let left : p' ≡ without r (without t p) ++ (record { name = t; word = roll-CExpr (CExpr-F.Name r) }) ∷ [] = k ∙ ap (λ y. y ++ (record { name = t; word = said }) ∷ []) whole ∙ ap (λ y. without r (without t p) ++ (record { name = t; word = y }) ∷ []) i in
    subst (λ x. TakesInto (stmt.Load t width a) r new p x p') (sym (h ∙ ap (λ w. new ++ stmt.Load r width w ∷ []) e))
    (subst (λ y. TakesInto (stmt.Load t width a) r new p (new ++ stmt.Load r width (placed_word p a) ∷ []) y) (sym left)
    (λ before seen after old rule s lost j.
    let b = both_true (is_flow_target t) (is_flow_word a) rule in
    takes_into t r width a new p gr (placed_flow p a word e f j.delayed_rule b.1) (subst (λ y. IsTrue (none_reads y r)) whole n) before seen after old rule s lost j))

pub step_take_store : (width : Width) (a b place word : CExpr) (new : List Stmt) (p : List Delayed) (new' : List Stmt) (p' : List Delayed) → place ≡ placed_word p a → word ≡ placed_word p b → IsTrue (word_fits place) → IsTrue (word_fits word)
    → new' ≡ new ++ stmt.Store width place word ∷ [] → p' ≡ p → Takes (stmt.Store width a b) new p new' p'
step_take_store width a b place word new p new' p' e e2 f f2 h k =
    subst (λ x. Takes (stmt.Store width a b) new p x p') (sym (h ∙ ap (λ w. new ++ stmt.Store width w word ∷ []) e ∙ ap (λ w. new ++ stmt.Store width (placed_word p a) w ∷ []) e2))
    (subst (λ y. Takes (stmt.Store width a b) new p (new ++ stmt.Store width (placed_word p a) (placed_word p b) ∷ []) y) (sym k)
    (λ before seen after old t s j.
    let c = both_true (is_flow_word a) (is_flow_word b) t in
    takes_store width a b new p (and_true (is_flow_word (placed_word p a)) (is_flow_word (placed_word p b)) (placed_flow p a place e f j.delayed_rule c.0) (placed_flow p b word e2 f2 j.delayed_rule c.1)) before seen after old t s j))

pub step_take_call : (a word : CExpr) (new : List Stmt) (p : List Delayed) (new' : List Stmt) (p' : List Delayed) → word ≡ placed_word p a → IsTrue (word_fits word) → IsTrue (are_flags p)
    → new' ≡ new ++ stmt.Ext word ∷ [] → p' ≡ [] → Takes (stmt.Ext a) new p new' p'
step_take_call a word new p new' p' e f n h k =
    subst (λ x. Takes (stmt.Ext a) new p x p') (sym (h ∙ ap (λ w. new ++ stmt.Ext w ∷ []) e))
    (subst (λ y. Takes (stmt.Ext a) new p (new ++ stmt.Ext (placed_word p a) ∷ []) y) (sym k)
    (λ before seen after old t s j. takes_ext a new p (placed_flow p a word e f j.delayed_rule t) n before seen after old t s j))

pub step_take_trap : (vector : ℕ) (a word : CExpr) (new : List Stmt) (p : List Delayed) (new' : List Stmt) (p' : List Delayed) → word ≡ placed_word p a → IsTrue (word_fits word)
    → new' ≡ new ++ stmt.Trap vector word ∷ [] → p' ≡ p → Takes (stmt.Trap vector a) new p new' p'
step_take_trap vector a word new p new' p' e f h k =
    subst (λ x. Takes (stmt.Trap vector a) new p x p') (sym (h ∙ ap (λ w. new ++ stmt.Trap vector w ∷ []) e))
    (subst (λ y. Takes (stmt.Trap vector a) new p (new ++ stmt.Trap vector (placed_word p a) ∷ []) y) (sym k)
    (λ before seen after old t s j.
    let b = both_true (is_word vector) (is_flow_word a) t in
    takes_trap vector a new p (and_true (is_word vector) (is_flow_word (placed_word p a)) b.0 (placed_flow p a word e f j.delayed_rule b.1)) before seen after old t s j))
