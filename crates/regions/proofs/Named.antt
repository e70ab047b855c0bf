-- The names of the plain tree: those of the flow, and the selector.
use Rattle.std.proofs.Common.{map, ◌≡◌, ℕ, ◌+◌, ◌^◌, ◌-◌, Bool, true, false, nat_eq, nat_lt, if◌then◌else◌, List, [], ◌∷◌, ◌++◌, length, refl, sym, ap, ◌∙◌, subst}
use Rattle.std.specs.Prelude.{IsTrue}
use Rattle.dream_words.specs.declared.machine.Name.{Name}
use Rattle.dream_words.specs.declared.machine.Name.TheVariants as name
use Rattle.run_parts.specs.Parts.{has}
use Rattle.c_syntax.specs.declared.syntax.CExpr.{CExpr, CExpr-F}
use Rattle.c_syntax.specs.declared.syntax.CCond.{CCond}
use Rattle.c_words.specs.Built as built
use Rattle.micro_ir.specs.declared.flow.Case.{Case}
use Rattle.micro_ir.specs.declared.flow.Stmt.{Stmt}
use Rattle.micro_ir.specs.declared.flow.Stmt.TheVariants as stmt
use Rattle.micro_ir.specs.declared.flow.End.{End as BlockEnd}
use Rattle.micro_ir.specs.declared.flow.End.TheVariants as end
use Rattle.micro_ir.specs.declared.flow.Block.{Block}
use Rattle.micro_ir.specs.declared.flow.Flow.{Flow}
use Rattle.micro_ir.specs.Rule.{is_flow_name, is_flow_target, is_flow_word, is_flow_stmt, are_flow_stmts, have_words, is_flow_end, is_flow_block, are_flow_blocks}
use Rattle.micro_ir.proofs.Values.{both_true}
use Rattle.guarded.specs.declared.tree.SetTo.TheVariants as to
use Rattle.guarded.specs.declared.tree.Tree.{Tree, Tree-F, roll-Tree}
use Rattle.guarded.specs.declared.tree.TreeCase.{TreeCase}
use Rattle.guarded.specs.Uses.{Use, Sets, joined, name_of, names_of, word_uses, cond_uses, stmt_uses, stmts_uses, end_uses, tree_uses, case_uses}
use Rattle.guarded.specs.Numbers.{Locals, no_locals, with_number, with_local, with_locals, locals_of}
use Rattle.guarded.specs.Counts.{selectors_of}
use Rattle.guarded.specs.Formed.{are_text_names}
use Rattle.guarded.proofs.Layers.{uses_layer, case_uses_layer}
use Rattle.regions.specs.Plain.{selector, selects, goes_to, nothing, value_case, value_cases, value_switch, next_trees, tree_end, block_tree, block_case, block_cases, selector_loop, plain_tree}
use Rattle.regions.proofs.Standing.{number_is}
use Rattle.regions.proofs.FlowWords.{AllUses, uses_append, uses_to, IsFlowName, IsTextName, text_names, flow_text, word_uses_layer, word_named, cond_named}

-- ---- blocks

simple_named : (s : Stmt) → IsTrue (is_flow_stmt s) → AllUses IsFlowName (stmt_uses s)
simple_named (stmt.Set n e) h =
    let p = both_true (is_flow_target n) (is_flow_word e) h in
    uses_append IsFlowName (word_uses e) (Sets n ∷ []) (word_named e p.1) ((both_true (is_flow_name n) _ p.0).0, tt)
simple_named (stmt.Load n width e) h =
    let p = both_true (is_flow_target n) (is_flow_word e) h in
    uses_append IsFlowName (word_uses e) (Sets n ∷ []) (word_named e p.1) ((both_true (is_flow_name n) _ p.0).0, tt)
simple_named (stmt.Store width e f) h =
    let p = both_true (is_flow_word e) (is_flow_word f) h in
    uses_append IsFlowName (word_uses e) (word_uses f) (word_named e p.0) (word_named f p.1)
simple_named (stmt.Ext e) h = word_named e h
simple_named (stmt.Trap vector e) h = word_named e (both_true _ (is_flow_word e) h).1

simples_named : (ss : List Stmt) → IsTrue (are_flow_stmts ss) → AllUses IsFlowName (stmts_uses ss)
simples_named [] h = tt
simples_named (s ∷ ss) h =
    let p = both_true (is_flow_stmt s) (are_flow_stmts ss) h in
    uses_append IsFlowName (stmt_uses s) (stmts_uses ss) (simple_named s p.0) (simples_named ss p.1)

end_named : (e : BlockEnd) → IsTrue (is_flow_end e) → AllUses IsFlowName (end_uses (tree_end e))
end_named (end.Go a) h = tt
end_named (end.Branch t a b) h = tt
end_named (end.Switch e cases) h = tt
end_named end.Return h = tt
end_named (end.Leave e) h = word_named e h

pub block_named : (b : Block) → IsTrue (is_flow_block b) → AllUses IsFlowName (tree_uses (block_tree b))
block_named b h =
    let p = both_true (are_flow_stmts b.stmts) (is_flow_end b.end) h in
    subst (λ us. AllUses IsFlowName us) (sym (uses_layer (Tree-F.Block (record { at = b.at; stmts = b.stmts; «end» = tree_end b.end }))))
    (uses_append IsFlowName (stmts_uses b.stmts) (end_uses (tree_end b.end)) (simples_named b.stmts p.0) (end_named b.end p.1))

-- ---- the plain tree

-- a name of a flow, or the selector
abbrev is_plain_name : Name → Bool
is_plain_name (name.Reg n) = is_flow_name (name.Reg n)
is_plain_name (name.Flag n) = is_flow_name (name.Flag n)
is_plain_name name.Fs = true
is_plain_name name.Gs = true
is_plain_name (name.T n) = is_flow_name (name.T n)
is_plain_name (name.B n) = false
is_plain_name (name.S n) = nat_eq n 0

abbrev IsPlainName : Name → Type 0
IsPlainName n = IsTrue (is_plain_name n)

flow_plain : (n : Name) → IsFlowName n → IsPlainName n
flow_plain (name.Reg n) h = h
flow_plain (name.Flag n) h = h
flow_plain name.Fs h = refl
flow_plain name.Gs h = refl
flow_plain (name.T n) h = h
flow_plain (name.B n) h = h
flow_plain (name.S n) h = absurd (let z : ⊥ = cc in z)

plain_text : (n : Name) → IsPlainName n → IsTextName n
plain_text (name.Reg n) h = h
plain_text (name.Flag n) h = h
plain_text name.Fs h = refl
plain_text name.Gs h = refl
plain_text (name.T n) h = flow_text (name.T n) h
plain_text (name.B n) h = absurd (let z : ⊥ = cc in z)
plain_text (name.S n) h = ap (λ i. nat_lt i (2 ^ 32 - 1)) (number_is n 0 h)

abbrev AllPlain : List Use → Type 0
AllPlain us = AllUses IsPlainName us

of_flow : (us : List Use) → AllUses IsFlowName us → AllPlain us
of_flow us h = uses_to IsFlowName IsPlainName flow_plain us h

plain_append : (us vs : List Use) → AllPlain us → AllPlain vs → AllPlain (us ++ vs)
plain_append us vs h g = uses_append IsPlainName us vs h g

selects_uses : (e : CExpr) → tree_uses (selects e) ≡ word_uses e ++ Sets selector ∷ []
selects_uses e = uses_layer (Tree-F.Set selector (to.Expr e))

num_uses : (n : ℕ) → word_uses (built.num n) ≡ []
num_uses n = word_uses_layer (CExpr-F.Num n)

pub goes_uses : (n : ℕ) → tree_uses (goes_to n) ≡ Sets selector ∷ []
goes_uses n = selects_uses (built.num n) ∙ ap (λ us. us ++ Sets selector ∷ []) (num_uses n)

selects_named : (e : CExpr) → AllUses IsFlowName (word_uses e) → AllPlain (tree_uses (selects e))
selects_named e h = subst AllPlain (sym (selects_uses e)) (plain_append (word_uses e) (Sets selector ∷ []) (of_flow (word_uses e) h) (refl, tt))

goes_named : (n : ℕ) → AllPlain (tree_uses (goes_to n))
goes_named n = subst AllPlain (sym (goes_uses n)) (refl, tt)

nothing_named : AllPlain (tree_uses nothing)
nothing_named = subst AllPlain (sym (uses_layer (Tree-F.Seq []))) tt

value_named : (c : Case) → AllPlain (case_uses (value_case c))
value_named c = subst AllPlain (sym (case_uses_layer (record { values = c.value ∷ []; body = goes_to c.to }))) (goes_named c.to)

values_step : (seen : List ℕ) (c : Case) (cases : List Case) (b : Bool) → ((more : List ℕ) → AllPlain (joined (map case_uses (value_cases more cases))))
    → AllPlain (joined (map case_uses (if b then value_cases seen cases else value_case c ∷ value_cases (seen ++ c.value ∷ []) cases)))
values_step seen c cases true k = k seen
values_step seen c cases false k = plain_append (case_uses (value_case c)) _ (value_named c) (k (seen ++ c.value ∷ []))

values_named : (seen : List ℕ) (cases : List Case) → AllPlain (joined (map case_uses (value_cases seen cases)))
values_named seen [] = tt
values_named seen (c ∷ cases) = values_step seen c cases (has seen c.value) (λ more. values_named more cases)

switch_named : (cs : List TreeCase) → AllPlain (joined (map case_uses cs)) → AllPlain (tree_uses (roll-Tree (Tree-F.Switch selector cs nothing)))
switch_named cs h =
    subst AllPlain (sym (uses_layer (Tree-F.Switch selector cs nothing)))
    (refl, plain_append (joined (map case_uses cs)) (tree_uses nothing) h nothing_named)

pick_named : (t : CCond) (a b : ℕ) → AllUses IsFlowName (cond_uses t) → AllUses IsFlowName (word_uses (built.pick t (built.num a) (built.num b)))
pick_named t a b h =
    subst (λ us. AllUses IsFlowName us) (sym (word_uses_layer (CExpr-F.Pick t (built.num a) (built.num b))))
    (uses_append IsFlowName (cond_uses t) (word_uses (built.num a) ++ word_uses (built.num b)) h
    (uses_append IsFlowName (word_uses (built.num a)) (word_uses (built.num b)) (subst (λ us. AllUses IsFlowName us) (sym (num_uses a)) tt) (subst (λ us. AllUses IsFlowName us) (sym (num_uses b)) tt)))

next_named : (e : BlockEnd) → IsTrue (is_flow_end e) → AllPlain (joined (map tree_uses (next_trees e)))
next_named (end.Go a) h = plain_append (tree_uses (goes_to a)) [] (goes_named a) tt
next_named (end.Branch t a b) h =
    plain_append (tree_uses (selects (built.pick t (built.num a) (built.num b)))) [] (selects_named (built.pick t (built.num a) (built.num b)) (pick_named t a b (cond_named t h))) tt
next_named (end.Switch e cases) h =
    plain_append (tree_uses (selects e)) (tree_uses (value_switch cases) ++ []) (selects_named e (word_named e (both_true (is_flow_word e) (have_words cases) h).0))
    (plain_append (tree_uses (value_switch cases)) [] (switch_named (value_cases [] cases) (values_named [] cases)) tt)
next_named end.Return h = tt
next_named (end.Leave e) h = tt

abbrev block_body : Block → Tree
block_body b = roll-Tree (Tree-F.Seq (block_tree b ∷ next_trees b.end))

case_named : (n : ℕ) (b : Block) → IsTrue (is_flow_block b) → AllPlain (case_uses (block_case n b))
case_named n b h =
    subst AllPlain (sym (case_uses_layer (record { values = n ∷ []; body = block_body b })))
    (subst AllPlain (sym (uses_layer (Tree-F.Seq (block_tree b ∷ next_trees b.end))))
    (plain_append (tree_uses (block_tree b)) (joined (map tree_uses (next_trees b.end))) (of_flow (tree_uses (block_tree b)) (block_named b h))
    (next_named b.end (both_true (are_flow_stmts b.stmts) (is_flow_end b.end) h).1)))

cases_named : (k : ℕ) (bs : List Block) → IsTrue (are_flow_blocks bs) → AllPlain (joined (map case_uses (block_cases k bs)))
cases_named k [] h = tt
cases_named k (b ∷ bs) h =
    let p = both_true (is_flow_block b) (are_flow_blocks bs) h in
    plain_append (case_uses (block_case k b)) (joined (map case_uses (block_cases (k + 1) bs))) (case_named k b p.0) (cases_named (k + 1) bs p.1)

loop_named : (bs : List Block) → IsTrue (are_flow_blocks bs) → AllPlain (tree_uses (selector_loop bs))
loop_named bs h =
    subst AllPlain (sym (uses_layer (Tree-F.Loop (roll-Tree (Tree-F.Switch selector (block_cases 0 bs) nothing)))))
    (switch_named (block_cases 0 bs) (cases_named 0 bs h))

-- the uses of the plain tree: the selector is set, and then those of the loop
plain_uses : (f : Flow) → tree_uses (plain_tree f) ≡ Sets selector ∷ tree_uses (selector_loop f.blocks) ++ []
plain_uses f = uses_layer (Tree-F.Seq (goes_to f.entry ∷ selector_loop f.blocks ∷ [])) ∙ ap (λ us. us ++ (tree_uses (selector_loop f.blocks) ++ [])) (goes_uses f.entry)

rest_named : (f : Flow) → IsTrue (are_flow_blocks f.blocks) → AllPlain (tree_uses (selector_loop f.blocks) ++ [])
rest_named f h = plain_append (tree_uses (selector_loop f.blocks)) [] (loop_named f.blocks h) tt

pub plain_named : (f : Flow) → IsTrue (are_flow_blocks f.blocks) → IsTrue (are_text_names (names_of (tree_uses (plain_tree f))))
plain_named f h =
    let all : AllPlain (Sets selector ∷ tree_uses (selector_loop f.blocks) ++ []) = (refl, rest_named f h) in
    text_names (tree_uses (plain_tree f)) (uses_to IsPlainName IsTextName plain_text (tree_uses (plain_tree f)) (subst AllPlain (sym (plain_uses f)) all))

-- ---- selectors

-- the selectors of the locals, after one name more
one_more : (l : Locals) (n : Name) → IsPlainName n → l.selectors ≡ 0 ∷ [] → (with_local l n).selectors ≡ 0 ∷ []
one_more l (name.Reg n) h e = e
one_more l (name.Flag n) h e = e
one_more l name.Fs h e = e
one_more l name.Gs h e = e
one_more l (name.T n) h e = e
one_more l (name.B n) h e = absurd (let z : ⊥ = cc in z)
one_more l (name.S n) h e = ap (λ ks. with_number ks n) e ∙ ap (λ i. with_number (0 ∷ []) i) (number_is n 0 h)

more_names : (l : Locals) (us : List Use) → AllPlain us → l.selectors ≡ 0 ∷ [] → (with_locals l (names_of us)).selectors ≡ 0 ∷ []
more_names l [] h e = e
more_names l (u ∷ us) h e = more_names (with_local l (name_of u)) us h.1 (one_more l (name_of u) h.0 e)

pub plain_selectors : (f : Flow) → IsTrue (are_flow_blocks f.blocks) → selectors_of (plain_tree f) ≡ 1
plain_selectors f h =
    ap (λ us. length (locals_of (names_of us)).selectors) (plain_uses f)
    ∙ ap (λ (ks : List ℕ). length ks) (more_names (with_local no_locals selector) (tree_uses (selector_loop f.blocks) ++ []) (rest_named f h) refl)

-- names of a flow are no selectors
none_more : (l : Locals) (n : Name) → IsFlowName n → l.selectors ≡ [] → (with_local l n).selectors ≡ []
none_more l (name.Reg n) h e = e
none_more l (name.Flag n) h e = e
none_more l name.Fs h e = e
none_more l name.Gs h e = e
none_more l (name.T n) h e = e
none_more l (name.B n) h e = e
none_more l (name.S n) h e = absurd (let z : ⊥ = cc in z)

none_of : (l : Locals) (us : List Use) → AllUses IsFlowName us → l.selectors ≡ [] → (with_locals l (names_of us)).selectors ≡ []
none_of l [] h e = e
none_of l (u ∷ us) h e = none_of (with_local l (name_of u)) us h.1 (none_more l (name_of u) h.0 e)

pub no_selectors : (t : Tree) → AllUses IsFlowName (tree_uses t) → selectors_of t ≡ 0
no_selectors t h = ap (λ (ks : List ℕ). length ks) (none_of no_locals (tree_uses t) h refl)
