-- A statement whose parts have conditions in place follows like it did, and lists of such statements, arms and groups grow by one.
use Rattle.std.proofs.Common.{◌≡◌, ℕ, ◌+◌, ◌<◌, ◌≤◌, List, [], ◌∷◌, ◌++◌, Option, Some, None, length, take, get_or, refl, sym, ap, ◌∙◌, subst}
use Rattle.std.proofs.lemmas.List.{take_more, take_all}
use Rattle.dream_words.specs.declared.machine.Name.{Name}
use Rattle.dream_words.specs.declared.machine.Width.{Width}
use Rattle.c_syntax.specs.declared.syntax.CExpr.{CExpr}
use Rattle.c_syntax.specs.declared.syntax.CCond.{CCond}
use Rattle.c_syntax.specs.declared.syntax.CStmt.{CStmt}
use Rattle.c_syntax.specs.declared.syntax.CStmt.TheVariants as stmt
use Rattle.c_syntax.specs.declared.syntax.CArm.{CArm, roll-CArm, out-CArm, roll-out-CArm}
use Rattle.c_syntax.specs.declared.syntax.CGroup.{CGroup, roll-CGroup, out-CGroup, roll-out-CGroup}
use Rattle.c_locals.proofs.Bools.{ap2}
use Rattle.c_conds.specs.Placed.{HoldsAfter, FollowsLike, AreLike, ArmLike, ArmsLike, GroupLike, GroupsLike}
use Rattle.c_conds.proofs.Alike.{follow_same, loop_like, while_like, do_like, switch_like, if_none_like, if_some_like, like_snoc, arms_snoc, arm_like, groups_snoc, group_like}

-- ---- copies

pub set_kept : (before : List CStmt) (s : CStmt) (n : Name) (e e' : CExpr) → s ≡ stmt.Set n e → e' ≡ e → FollowsLike before s (stmt.Set n e')
set_kept before s n e e' i p = follow_same before s (stmt.Set n e') (ap (λ x. stmt.Set n x) p ∙ sym i)

pub load_kept : (before : List CStmt) (s : CStmt) (n : Name) (w : Width) (e e' : CExpr) → s ≡ stmt.Load n w e → e' ≡ e → FollowsLike before s (stmt.Load n w e')
load_kept before s n w e e' i p = follow_same before s (stmt.Load n w e') (ap (λ x. stmt.Load n w x) p ∙ sym i)

pub store_kept : (before : List CStmt) (s : CStmt) (w : Width) (e e' v v' : CExpr) → s ≡ stmt.Store w e v → e' ≡ e → v' ≡ v → FollowsLike before s (stmt.Store w e' v')
store_kept before s w e e' v v' i p q = follow_same before s (stmt.Store w e' v') (ap2 (λ x y. stmt.Store w x y) _ _ _ _ p q ∙ sym i)

pub ext_kept : (before : List CStmt) (s : CStmt) (e e' : CExpr) → s ≡ stmt.Ext e → e' ≡ e → FollowsLike before s (stmt.Ext e')
ext_kept before s e e' i p = follow_same before s (stmt.Ext e') (ap (λ x. stmt.Ext x) p ∙ sym i)

pub trap_kept : (before : List CStmt) (s : CStmt) (n : ℕ) (e e' : CExpr) → s ≡ stmt.Trap n e → e' ≡ e → FollowsLike before s (stmt.Trap n e')
trap_kept before s n e e' i p = follow_same before s (stmt.Trap n e') (ap (λ x. stmt.Trap n x) p ∙ sym i)

-- ---- statements of parts

-- by what the two statements are
follow_as : (before : List CStmt) (s s' t t' : CStmt) → s ≡ s' → t' ≡ t → FollowsLike before s' t' → FollowsLike before s t
follow_as before s s' t t' p q h = subst (λ x. FollowsLike before x t) (sym p) (subst (FollowsLike before s') q h)

pub loop_kept : (before : List CStmt) (s : CStmt) (body now ts : List CStmt) → s ≡ stmt.Loop body → now ≡ body → AreLike now ts → FollowsLike before s (stmt.Loop ts)
loop_kept before s body now ts i p a = follow_as before s _ (stmt.Loop ts) _ (i ∙ sym (stmt.rolls-Loop body)) (stmt.rolls-Loop ts) (loop_like before body ts (subst (λ x. AreLike x ts) p a))

pub while_kept : (before : List CStmt) (s : CStmt) (t u : CCond) (body now ts : List CStmt) → s ≡ stmt.While t body → u ≡ t → now ≡ body → AreLike now ts → FollowsLike before s (stmt.While u ts)
while_kept before s t u body now ts i e p a =
    follow_as before s _ (stmt.While u ts) _ (i ∙ sym (stmt.rolls-While t body)) (stmt.rolls-While t ts ∙ ap (λ x. stmt.While x ts) (sym e)) (while_like before t body ts (subst (λ x. AreLike x ts) p a))

pub do_kept : (before : List CStmt) (s : CStmt) (body now ts after : List CStmt) (t u : CCond) → s ≡ stmt.DoWhile body t → now ≡ body → AreLike now ts → after ≡ ts → HoldsAfter after t u
    → FollowsLike before s (stmt.DoWhile ts u)
do_kept before s body now ts after t u i p a e h =
    follow_as before s _ (stmt.DoWhile ts u) _ (i ∙ sym (stmt.rolls-DoWhile body t)) (stmt.rolls-DoWhile ts u)
    (do_like before body ts t u (subst (λ x. AreLike x ts) p a) (subst (λ x. HoldsAfter x t u) e h))

pub switch_kept : (before : List CStmt) (s : CStmt) (e e' : CExpr) (groups now bs : List CGroup) (last now' ts : List CStmt) → s ≡ stmt.Switch e groups last → e' ≡ e → now ≡ groups → GroupsLike now bs
    → now' ≡ last → AreLike now' ts → FollowsLike before s (stmt.Switch e' bs ts)
switch_kept before s e e' groups now bs last now' ts i q p g r a =
    follow_as before s _ (stmt.Switch e' bs ts) _ (i ∙ sym (stmt.rolls-Switch e groups last)) (stmt.rolls-Switch e bs ts ∙ ap (λ x. stmt.Switch x bs ts) (sym q))
    (switch_like before e groups bs last ts (subst (λ x. GroupsLike x bs) p g) (subst (λ x. AreLike x ts) r a))

pub if_none_kept : (before : List CStmt) (s : CStmt) (arms now bs : List CArm) (last : Option (List CStmt)) → s ≡ stmt.If arms last → last ≡ None → now ≡ arms → ArmsLike before now bs → FollowsLike before s (stmt.If bs None)
if_none_kept before s arms now bs last i n p h =
    follow_as before s _ (stmt.If bs None) _ (i ∙ ap (λ x. stmt.If arms x) n ∙ sym (stmt.rolls-If arms None)) (stmt.rolls-If bs None) (if_none_like before arms bs (subst (λ x. ArmsLike before x bs) p h))

pub if_some_kept : (before : List CStmt) (s : CStmt) (arms now bs : List CArm) (last : Option (List CStmt)) (body now' ts : List CStmt) → s ≡ stmt.If arms last → last ≡ Some body → now ≡ arms → ArmsLike before now bs
    → now' ≡ body → AreLike now' ts → FollowsLike before s (stmt.If bs (Some ts))
if_some_kept before s arms now bs last body now' ts i n p h r a =
    follow_as before s _ (stmt.If bs (Some ts)) _ (i ∙ ap (λ x. stmt.If arms x) n ∙ sym (stmt.rolls-If arms (Some body))) (stmt.rolls-If bs (Some ts))
    (if_some_like before arms bs body ts (subst (λ x. ArmsLike before x bs) p h) (subst (λ x. AreLike x ts) r a))

-- ---- arms and groups

pub arm_kept : (before : List CStmt) (a : CArm) (u : CCond) (now ts : List CStmt) → HoldsAfter before (out-CArm a).test u → now ≡ (out-CArm a).body → AreLike now ts → ArmLike before a (roll-CArm (record { test = u; body = ts }))
arm_kept before a u now ts o p h = subst (λ x. ArmLike before x (roll-CArm (record { test = u; body = ts }))) (roll-out-CArm a) (arm_like before (out-CArm a).test u (out-CArm a).body ts o (subst (λ x. AreLike x ts) p h))

pub group_kept : (a : CGroup) (vs : List ℕ) (now ts : List CStmt) → vs ≡ (out-CGroup a).values → now ≡ (out-CGroup a).body → AreLike now ts → GroupLike a (roll-CGroup (record { values = vs; body = ts }))
group_kept a vs now ts q p h =
    subst (λ x. GroupLike a (roll-CGroup (record { values = x; body = ts }))) (sym q)
    (subst (λ x. GroupLike x (roll-CGroup (record { values = (out-CGroup a).values; body = ts }))) (roll-out-CGroup a) (group_like (out-CGroup a).values (out-CGroup a).body ts (subst (λ x. AreLike x ts) p h)))

-- ---- one more

one_taken : {A : Type 0} (all : List A) (i : ℕ) (x : A) → i < length all → x ≡ get_or all i x → take i all ++ x ∷ [] ≡ take (i + 1) all
one_taken all i x l e = sym (take_more all i x l ∙ ap (λ z. take i all ++ z ∷ []) (sym e))

pub stmts_more : (all : List CStmt) (i : ℕ) (s t : CStmt) (kept before new : List CStmt) → i < length all → s ≡ get_or all i s → AreLike (take i all) kept → before ≡ kept → FollowsLike before s t → new ≡ kept ++ t ∷ []
    → AreLike (take (i + 1) all) new
stmts_more all i s t kept before new l e a b f n =
    subst (λ x. AreLike x new) (one_taken all i s l e) (subst (λ x. AreLike (take i all ++ s ∷ []) x) (sym n) (like_snoc (take i all) kept s t a (subst (λ x. FollowsLike x s t) b f)))

pub arms_more : (before : List CStmt) (all : List CArm) (i : ℕ) (a b : CArm) (kept new : List CArm) → i < length all → a ≡ get_or all i a → ArmsLike before (take i all) kept → ArmLike before a b → new ≡ kept ++ b ∷ []
    → ArmsLike before (take (i + 1) all) new
arms_more before all i a b kept new l e h k n =
    subst (λ x. ArmsLike before x new) (one_taken all i a l e) (subst (λ x. ArmsLike before (take i all ++ a ∷ []) x) (sym n) (arms_snoc before (take i all) kept a b h k))

pub groups_more : (all : List CGroup) (i : ℕ) (a b : CGroup) (kept new : List CGroup) → i < length all → a ≡ get_or all i a → GroupsLike (take i all) kept → GroupLike a b → new ≡ kept ++ b ∷ []
    → GroupsLike (take (i + 1) all) new
groups_more all i a b kept new l e h k n =
    subst (λ x. GroupsLike x new) (one_taken all i a l e) (subst (λ x. GroupsLike (take i all ++ a ∷ []) x) (sym n) (groups_snoc (take i all) kept a b h k))

pub all_stmts : (all : List CStmt) (i : ℕ) (kept : List CStmt) → length all ≤ i → AreLike (take i all) kept → AreLike all kept
all_stmts all i kept l h = subst (λ x. AreLike x kept) (take_all i all l) h

pub all_arms : (before : List CStmt) (all : List CArm) (i : ℕ) (kept : List CArm) → length all ≤ i → ArmsLike before (take i all) kept → ArmsLike before all kept
all_arms before all i kept l h = subst (λ x. ArmsLike before x kept) (take_all i all l) h

pub all_groups : (all : List CGroup) (i : ℕ) (kept : List CGroup) → length all ≤ i → GroupsLike (take i all) kept → GroupsLike all kept
all_groups all i kept l h = subst (λ x. GroupsLike x kept) (take_all i all l) h
