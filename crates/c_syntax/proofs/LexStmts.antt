-- The canonical text of statements, and of a function, is read as its tokens.
use Rattle.std.proofs.Common.{◌≡◌, ℕ, zero, suc, ◌+◌, ◌*◌, List, [], ◌∷◌, ◌++◌, Some, None, refl, sym, ap, ◌∙◌, subst, append_assoc, codes, map, min}
use Rattle.std.specs.Prelude.{replicate}
use Rattle.dream_words.specs.declared.machine.Name.{Name}
use Rattle.dream_words.specs.declared.machine.Name.TheVariants as name
use Rattle.c_syntax.specs.declared.syntax.CStmt as st
use Rattle.c_syntax.specs.declared.syntax.CStmt.{CStmt, CStmt-F, roll-CStmt}
use Rattle.c_syntax.specs.declared.syntax.CArm as arm
use Rattle.c_syntax.specs.declared.syntax.CArm.{CArm, CArm-F, roll-CArm}
use Rattle.c_syntax.specs.declared.syntax.CGroup as group
use Rattle.c_syntax.specs.declared.syntax.CGroup.{CGroup, CGroup-F, roll-CGroup}
use Rattle.c_syntax.specs.declared.syntax.CFun.{CFun}
use Rattle.c_syntax.specs.declared.token.Token.{Token}
use Rattle.c_syntax.specs.declared.token.Token.TheVariants as t
use Rattle.c_syntax.specs.Lex.{lex}
use Rattle.c_syntax.specs.Spelling.{num_text, name_text, function_text, ld_text, st_text}
use Rattle.c_syntax.specs.Text as text
use Rattle.c_syntax.specs.Text.{Text, Lines, word_text, cond_text, indent, line, include_line, fun_text, canonical_text, decls_text, stmt_text, arm_text, group_text, stmts_text, cases_text}
use Rattle.c_syntax.specs.Tokens as tokens
use Rattle.c_syntax.specs.Tokens.{Tokens, word_tokens, cond_tokens, stmt_tokens, arm_tokens, group_tokens, stmts_tokens, cases_tokens, decls_tokens, fun_tokens}
use Rattle.c_syntax.specs.Stands.{CanonicalStands}
use Rattle.c_syntax.proofs.Layers.{stmt_tokens_layer, arm_tokens_layer, group_tokens_layer, stmt_text_layer, arm_text_layer, group_text_layer}
use Rattle.c_syntax.proofs.Induct.{StmtCases, Each, every_stmt}
use Rattle.c_syntax.proofs.Lexing.{spelt, after, opens, ends, num_step, name_step, function_step, ld_step, st_step}
use Rattle.c_syntax.proofs.LexWords.{word_lexes, cond_lexes}

-- texts one after another, with what follows them
assoc2 : (a b rest : List ℕ) → (a ++ b) ++ rest ≡ a ++ (b ++ (rest))
assoc2 a b rest = simp append_assoc

assoc3 : (a b c rest : List ℕ) → ((a ++ b) ++ c) ++ rest ≡ a ++ (b ++ (c ++ (rest)))
assoc3 a b c rest = simp append_assoc

assoc4 : (a b c d rest : List ℕ) → (((a ++ b) ++ c) ++ d) ++ rest ≡ a ++ (b ++ (c ++ (d ++ (rest))))
assoc4 a b c d rest = simp append_assoc

assoc5 : (a b c d e rest : List ℕ) → ((((a ++ b) ++ c) ++ d) ++ e) ++ rest ≡ a ++ (b ++ (c ++ (d ++ (e ++ (rest)))))
assoc5 a b c d e rest = simp append_assoc

assoc6 : (a b c d e f rest : List ℕ) → (((((a ++ b) ++ c) ++ d) ++ e) ++ f) ++ rest ≡ a ++ (b ++ (c ++ (d ++ (e ++ (f ++ (rest))))))
assoc6 a b c d e f rest = simp append_assoc

assoc7 : (a b c d e f g rest : List ℕ) → ((((((a ++ b) ++ c) ++ d) ++ e) ++ f) ++ g) ++ rest ≡ a ++ (b ++ (c ++ (d ++ (e ++ (f ++ (g ++ (rest)))))))
assoc7 a b c d e f g rest = simp append_assoc

-- blanks before a text are no part of its tokens
blanks : (k : ℕ) (rest : List ℕ) → lex [] (replicate k 32 ++ rest) ≡ lex [] rest
blanks zero rest = refl
blanks (suc k) rest = blanks k rest

-- a line is read as its text
lined : (level : ℕ) (x : Text) (rest : List ℕ) → lex [] (line level x ++ rest) ≡ lex [] (x ++ 10 ∷ rest)
lined level x rest =
    ap (lex []) (append_assoc (indent level ++ x) (10 ∷ []) rest ∙ append_assoc (indent level) x (10 ∷ rest))
    ∙ blanks (2 * min level 32) (x ++ 10 ∷ rest)

-- the text at a level is read as these tokens, whatever follows
pub record Reads (x : Lines) (p : Tokens) : Type 0 where
  pub reads : (level : ℕ) (rest : List ℕ) (r : List Token) → lex [] rest ≡ spelt r → lex [] (x level ++ rest) ≡ spelt (p r)

-- parts one after another
module _ {A : Type 0} (x : A → Lines) (p : A → Tokens) where
  -- lines one after another
  all_read : (as' : List A) → Each (λ a. Reads (x a) (p a)) as' → (level : ℕ) (rest : List ℕ) (r : List Token) → lex [] rest ≡ spelt r
      → lex [] (text.all (map x as') level ++ rest) ≡ spelt (tokens.all (map p as') r)
  all_read [] hs level rest r h = h
  all_read (a ∷ as') hs level rest r h =
      ap (lex []) (append_assoc (x a level) (text.all (map x as') level) rest) ∙ hs.0.reads level _ _ (all_read as' hs.1 level rest r h)

  -- the arms after the first
  more_read : (as' : List A) → Each (λ a. Reads (x a) (p a)) as' → (level : ℕ) (rest : List ℕ) (r : List Token) → lex [] rest ≡ spelt r
      → lex [] (text.more_arms (map x as') level ++ rest) ≡ spelt (tokens.more_arms (map p as') r)
  more_read [] hs level rest r h = h
  more_read (a ∷ as') hs level rest r h =
      let e : text.more_arms (map x (a ∷ as')) level ++ rest ≡ 32 ∷ 101 ∷ 108 ∷ 115 ∷ 101 ∷ 32 ∷ (x a level ++ (text.more_arms (map x as') level ++ rest)) = assoc3 (codes " else ") (x a level) (text.more_arms (map x as') level) (rest) in ap (lex []) e ∙
      after (codes "else") (hs.0.reads level _ _ (more_read as' hs.1 level rest r h))

  -- all arms
  arms_read : (as' : List A) → Each (λ a. Reads (x a) (p a)) as' → (level : ℕ) (rest : List ℕ) (r : List Token) → lex [] rest ≡ spelt r
      → lex [] (text.arms_text (map x as') level ++ rest) ≡ spelt (tokens.arms_tokens (map p as') r)
  arms_read [] hs level rest r h = h
  arms_read (a ∷ as') hs level rest r h =
      ap (lex []) (append_assoc (x a level) (text.more_arms (map x as') level) rest) ∙ hs.0.reads level _ _ (more_read as' hs.1 level rest r h)

  -- a body
  body_read : (as' : List A) → Each (λ a. Reads (x a) (p a)) as' → (level : ℕ) (rest : List ℕ) (r : List Token) → lex [] rest ≡ spelt r
      → lex [] (text.body_text (map x as') level ++ rest) ≡ spelt (tokens.body_tokens (map p as') r)
  body_read as' hs level rest r h =
      let e : text.body_text (map x as') level ++ rest ≡ 123 ∷ 10 ∷ (text.all (map x as') (level + 1) ++ (indent level ++ 125 ∷ rest)) = assoc4 (codes "{\n") (text.all (map x as') (level + 1)) (indent level) (codes "}") (rest) in ap (lex []) e ∙
      after (codes "{") (all_read as' hs (level + 1) _ _ (blanks (2 * min level 32) (125 ∷ rest) ∙ ends rest r h))

-- the values of a group
cases_read : (vs : List ℕ) (rest : List ℕ) (r : List Token) → lex [] rest ≡ spelt r → lex [] (cases_text vs ++ rest) ≡ spelt (cases_tokens vs r)
cases_read [] rest r h = h
cases_read (v ∷ vs) rest r h =
    let e : cases_text (v ∷ vs) ++ rest ≡ 99 ∷ 97 ∷ 115 ∷ 101 ∷ 32 ∷ (num_text v ++ 58 ∷ 32 ∷ (cases_text vs ++ rest)) = assoc4 (codes "case ") (num_text v) (codes ": ") (cases_text vs) (rest) in ap (lex []) e ∙
    after (codes "case") (num_step v _ (t.Colon ∷ cases_tokens vs r) (refl, refl) (after (codes ":") (cases_read vs rest r h)))

-- the lines of a statement are read as its tokens
StmtReads : CStmt → Type 0
StmtReads s = Reads (stmt_text s) (stmt_tokens s)

-- a layer over statements, arms and groups
stmt_layer : (y : CStmt-F CStmt CArm CGroup)
    → Reads (text.stmt_at (st.map-CStmt CStmt CArm CGroup Lines Lines Lines stmt_text arm_text group_text y)) (tokens.stmt_at (st.map-CStmt CStmt CArm CGroup Tokens Tokens Tokens stmt_tokens arm_tokens group_tokens y))
    → Reads (stmt_text (roll-CStmt y)) (stmt_tokens (roll-CStmt y))
stmt_layer y h =
    subst (λ p. Reads (stmt_text (roll-CStmt y)) p) (sym (stmt_tokens_layer y))
    (subst (λ x. Reads x (tokens.stmt_at (st.map-CStmt CStmt CArm CGroup Tokens Tokens Tokens stmt_tokens arm_tokens group_tokens y))) (sym (stmt_text_layer y)) h)

arm_layer : (y : CArm-F CStmt CArm CGroup)
    → Reads (text.arm_at (arm.map-CArm CStmt CArm CGroup Lines Lines Lines stmt_text arm_text group_text y)) (tokens.arm_at (arm.map-CArm CStmt CArm CGroup Tokens Tokens Tokens stmt_tokens arm_tokens group_tokens y))
    → Reads (arm_text (roll-CArm y)) (arm_tokens (roll-CArm y))
arm_layer y h =
    subst (λ p. Reads (arm_text (roll-CArm y)) p) (sym (arm_tokens_layer y))
    (subst (λ x. Reads x (tokens.arm_at (arm.map-CArm CStmt CArm CGroup Tokens Tokens Tokens stmt_tokens arm_tokens group_tokens y))) (sym (arm_text_layer y)) h)

group_layer : (y : CGroup-F CStmt CArm CGroup)
    → Reads (text.group_at (group.map-CGroup CStmt CArm CGroup Lines Lines Lines stmt_text arm_text group_text y)) (tokens.group_at (group.map-CGroup CStmt CArm CGroup Tokens Tokens Tokens stmt_tokens arm_tokens group_tokens y))
    → Reads (group_text (roll-CGroup y)) (group_tokens (roll-CGroup y))
group_layer y h =
    subst (λ p. Reads (group_text (roll-CGroup y)) p) (sym (group_tokens_layer y))
    (subst (λ x. Reads x (tokens.group_at (group.map-CGroup CStmt CArm CGroup Tokens Tokens Tokens stmt_tokens arm_tokens group_tokens y))) (sym (group_text_layer y)) h)

-- by cases
stmt_reads : StmtCases (λ s. Reads (stmt_text s) (stmt_tokens s)) (λ a. Reads (arm_text a) (arm_tokens a)) (λ g. Reads (group_text g) (group_tokens g))
stmt_reads = record {
  set = λ n a. stmt_layer (CStmt-F.Set n a) (record {
    reads = λ level rest r h.
        lined level (name_text n ++ codes " = " ++ word_text a ++ codes ";") rest ∙ (let e : (name_text n ++ codes " = " ++ word_text a ++ codes ";") ++ 10 ∷ rest ≡ (name_text n ++ 32 ∷ 61 ∷ 32 ∷ (word_text a ++ 59 ∷ (10 ∷ rest))) = assoc4 (name_text n) (codes " = ") (word_text a) (codes ";") ((10 ∷ rest)) in ap (lex []) e) ∙
        name_step n _ (t.Assign ∷ word_tokens a (t.Semicolon ∷ r)) (refl, refl) (after (codes "=") ((word_lexes a).reads _ (t.Semicolon ∷ r) (refl, refl) (after (codes ";") h)));
  });
  load = λ n w a. stmt_layer (CStmt-F.Load n w a) (record {
    reads = λ level rest r h.
        lined level (name_text n ++ codes " = " ++ ld_text w ++ codes "(" ++ word_text a ++ codes ");") rest ∙ (let e : (name_text n ++ codes " = " ++ ld_text w ++ codes "(" ++ word_text a ++ codes ");") ++ 10 ∷ rest ≡ (name_text n ++ 32 ∷ 61 ∷ 32 ∷ (ld_text w ++ 40 ∷ (word_text a ++ 41 ∷ 59 ∷ (10 ∷ rest)))) = assoc6 (name_text n) (codes " = ") (ld_text w) (codes "(") (word_text a) (codes ");") ((10 ∷ rest)) in ap (lex []) e) ∙
        name_step n _ (t.Assign ∷ t.Ld w ∷ t.Open ∷ word_tokens a (t.Close ∷ t.Semicolon ∷ r)) (refl, refl) (after (codes "=") (ld_step w _ _ ((word_lexes a).reads _ (t.Close ∷ t.Semicolon ∷ r) (refl, refl) (after (codes ")") (after (codes ";") h)))));
  });
  store = λ w a b. stmt_layer (CStmt-F.Store w a b) (record {
    reads = λ level rest r h.
        lined level (st_text w ++ codes "(" ++ word_text a ++ codes ", " ++ word_text b ++ codes ");") rest ∙ (let e : (st_text w ++ codes "(" ++ word_text a ++ codes ", " ++ word_text b ++ codes ");") ++ 10 ∷ rest ≡ (st_text w ++ 40 ∷ (word_text a ++ 44 ∷ 32 ∷ (word_text b ++ 41 ∷ 59 ∷ (10 ∷ rest)))) = assoc6 (st_text w) (codes "(") (word_text a) (codes ", ") (word_text b) (codes ");") ((10 ∷ rest)) in ap (lex []) e) ∙
        st_step w _ _ ((word_lexes a).reads _ (t.Comma ∷ word_tokens b (t.Close ∷ t.Semicolon ∷ r)) (refl, refl) (after (codes ",") ((word_lexes b).reads _ (t.Close ∷ t.Semicolon ∷ r) (refl, refl) (after (codes ")") (after (codes ";") h)))));
  });
  ext = λ a. stmt_layer (CStmt-F.Ext a) (record {
    reads = λ level rest r h.
        lined level (codes "ext(" ++ word_text a ++ codes ");") rest ∙ (let e : (codes "ext(" ++ word_text a ++ codes ");") ++ 10 ∷ rest ≡ 101 ∷ 120 ∷ 116 ∷ 40 ∷ (word_text a ++ 41 ∷ 59 ∷ (10 ∷ rest)) = assoc3 (codes "ext(") (word_text a) (codes ");") ((10 ∷ rest)) in ap (lex []) e) ∙
        after (codes "ext") (opens _ _ ((word_lexes a).reads _ (t.Close ∷ t.Semicolon ∷ r) (refl, refl) (after (codes ")") (after (codes ";") h))));
  });
  trap = λ v a. stmt_layer (CStmt-F.Trap v a) (record {
    reads = λ level rest r h.
        lined level (codes "trap(" ++ num_text v ++ codes ", " ++ word_text a ++ codes ");") rest ∙ (let e : (codes "trap(" ++ num_text v ++ codes ", " ++ word_text a ++ codes ");") ++ 10 ∷ rest ≡ 116 ∷ 114 ∷ 97 ∷ 112 ∷ 40 ∷ (num_text v ++ 44 ∷ 32 ∷ (word_text a ++ 41 ∷ 59 ∷ (10 ∷ rest))) = assoc5 (codes "trap(") (num_text v) (codes ", ") (word_text a) (codes ");") ((10 ∷ rest)) in ap (lex []) e) ∙
        after (codes "trap") (after (codes "(") (num_step v _ (t.Comma ∷ word_tokens a (t.Close ∷ t.Semicolon ∷ r)) (refl, refl) (after (codes ",") ((word_lexes a).reads _ (t.Close ∷ t.Semicolon ∷ r) (refl, refl) (after (codes ")") (after (codes ";") h))))));
  });
  if_none = λ arms ha. stmt_layer (CStmt-F.If arms None) (record {
    reads = λ level rest r h.
        lined level (text.arms_text (map arm_text arms) level ++ text.else_text None level) rest ∙ (let e : (text.arms_text (map arm_text arms) level ++ text.else_text None level) ++ 10 ∷ rest ≡ (text.arms_text (map arm_text arms) level ++ (text.else_text None level ++ (10 ∷ rest))) = assoc2 (text.arms_text (map arm_text arms) level) (text.else_text None level) ((10 ∷ rest)) in ap (lex []) e) ∙
        arms_read arm_text arm_tokens arms ha level (10 ∷ rest) r h;
  });
  if_some = λ arms last ha hl. stmt_layer (CStmt-F.If arms (Some last)) (record {
    reads = λ level rest r h.
        lined level (text.arms_text (map arm_text arms) level ++ (codes " else " ++ text.body_text (map stmt_text last) level)) rest ∙ (let e : (text.arms_text (map arm_text arms) level ++ (codes " else " ++ text.body_text (map stmt_text last) level)) ++ 10 ∷ rest ≡ (text.arms_text (map arm_text arms) level ++ 32 ∷ 101 ∷ 108 ∷ 115 ∷ 101 ∷ 32 ∷ (text.body_text (map stmt_text last) level ++ (10 ∷ rest))) = append_assoc (text.arms_text (map arm_text arms) level) (codes " else " ++ text.body_text (map stmt_text last) level) (10 ∷ rest) ∙ ap (λ q. text.arms_text (map arm_text arms) level ++ q) (append_assoc (codes " else ") (text.body_text (map stmt_text last) level) (10 ∷ rest)) in ap (lex []) e) ∙
        arms_read arm_text arm_tokens arms ha level _ (t.Else ∷ tokens.body_tokens (map stmt_tokens last) r) (after (codes "else") (body_read stmt_text stmt_tokens last hl level (10 ∷ rest) r h));
  });
  switch = λ a groups last hg hl. stmt_layer (CStmt-F.Switch a groups last) (record {
    reads = λ level rest r h.
        (let e : (line level (codes "switch (" ++ word_text a ++ codes ") {") ++ text.all (map group_text groups) level ++ line level (codes "default: " ++ text.body_text (map stmt_text last) level ++ codes " break;") ++ line level (codes "}")) ++ rest ≡ line level (codes "switch (" ++ word_text a ++ codes ") {") ++ (text.all (map group_text groups) level ++ (line level (codes "default: " ++ text.body_text (map stmt_text last) level ++ codes " break;") ++ (line level (codes "}") ++ rest))) =
        append_assoc (line level (codes "switch (" ++ word_text a ++ codes ") {") ++ text.all (map group_text groups) level ++ line level (codes "default: " ++ text.body_text (map stmt_text last) level ++ codes " break;")) (line level (codes "}")) rest ∙ append_assoc (line level (codes "switch (" ++ word_text a ++ codes ") {") ++ text.all (map group_text groups) level) (line level (codes "default: " ++ text.body_text (map stmt_text last) level ++ codes " break;")) (line level (codes "}") ++ rest) ∙ append_assoc (line level (codes "switch (" ++ word_text a ++ codes ") {")) (text.all (map group_text groups) level) (line level (codes "default: " ++ text.body_text (map stmt_text last) level ++ codes " break;") ++ (line level (codes "}") ++ rest)) in ap (lex []) e) ∙
        lined level (codes "switch (" ++ word_text a ++ codes ") {") (text.all (map group_text groups) level ++ (line level (codes "default: " ++ text.body_text (map stmt_text last) level ++ codes " break;") ++ (line level (codes "}") ++ rest))) ∙ (let e : (codes "switch (" ++ word_text a ++ codes ") {") ++ 10 ∷ (text.all (map group_text groups) level ++ (line level (codes "default: " ++ text.body_text (map stmt_text last) level ++ codes " break;") ++ (line level (codes "}") ++ rest))) ≡ 115 ∷ 119 ∷ 105 ∷ 116 ∷ 99 ∷ 104 ∷ 32 ∷ 40 ∷ (word_text a ++ 41 ∷ 32 ∷ 123 ∷ (10 ∷ (text.all (map group_text groups) level ++ (line level (codes "default: " ++ text.body_text (map stmt_text last) level ++ codes " break;") ++ (line level (codes "}") ++ rest))))) = assoc3 (codes "switch (") (word_text a) (codes ") {") ((10 ∷ (text.all (map group_text groups) level ++ (line level (codes "default: " ++ text.body_text (map stmt_text last) level ++ codes " break;") ++ (line level (codes "}") ++ rest))))) in ap (lex []) e) ∙
        after (codes "switch") (opens _ _ ((word_lexes a).reads (41 ∷ 32 ∷ 123 ∷ 10 ∷ (text.all (map group_text groups) level ++ (line level (codes "default: " ++ text.body_text (map stmt_text last) level ++ codes " break;") ++ (line level (codes "}") ++ rest)))) (t.Close ∷ t.Begin ∷ tokens.all (map group_tokens groups) (t.Default ∷ t.Colon ∷ tokens.body_tokens (map stmt_tokens last) (t.Break ∷ t.Semicolon ∷ t.End ∷ r))) (refl, refl) (after (codes ")") (after (codes "{")
        (all_read group_text group_tokens groups hg level (line level (codes "default: " ++ text.body_text (map stmt_text last) level ++ codes " break;") ++ (line level (codes "}") ++ rest)) (t.Default ∷ t.Colon ∷ tokens.body_tokens (map stmt_tokens last) (t.Break ∷ t.Semicolon ∷ t.End ∷ r))
        (lined level (codes "default: " ++ text.body_text (map stmt_text last) level ++ codes " break;") (line level (codes "}") ++ rest) ∙ (let e : (codes "default: " ++ text.body_text (map stmt_text last) level ++ codes " break;") ++ 10 ∷ (line level (codes "}") ++ rest) ≡ 100 ∷ 101 ∷ 102 ∷ 97 ∷ 117 ∷ 108 ∷ 116 ∷ 58 ∷ 32 ∷ (text.body_text (map stmt_text last) level ++ 32 ∷ 98 ∷ 114 ∷ 101 ∷ 97 ∷ 107 ∷ 59 ∷ (10 ∷ (line level (codes "}") ++ rest))) = assoc3 (codes "default: ") (text.body_text (map stmt_text last) level) (codes " break;") ((10 ∷ (line level (codes "}") ++ rest))) in ap (lex []) e) ∙ after (codes "default") (after (codes ":") (body_read stmt_text stmt_tokens last hl level (codes " break;" ++ 10 ∷ (line level (codes "}") ++ rest)) (t.Break ∷ t.Semicolon ∷ t.End ∷ r) (after (codes "break") (after (codes ";") (lined level (codes "}") rest ∙ after (codes "}") h)))))))))));
  });
  loop = λ body hb. stmt_layer (CStmt-F.Loop body) (record {
    reads = λ level rest r h.
        lined level (codes "while (1) " ++ text.body_text (map stmt_text body) level) rest ∙ (let e : (codes "while (1) " ++ text.body_text (map stmt_text body) level) ++ 10 ∷ rest ≡ 119 ∷ 104 ∷ 105 ∷ 108 ∷ 101 ∷ 32 ∷ 40 ∷ 49 ∷ 41 ∷ 32 ∷ (text.body_text (map stmt_text body) level ++ (10 ∷ rest)) = assoc2 (codes "while (1) ") (text.body_text (map stmt_text body) level) ((10 ∷ rest)) in ap (lex []) e) ∙
        after (codes "while") (after (codes "(") (after (codes "1") (after (codes ")") (body_read stmt_text stmt_tokens body hb level (10 ∷ rest) r h))));
  });
  while = λ c body hb. stmt_layer (CStmt-F.While c body) (record {
    reads = λ level rest r h.
        lined level (codes "while (" ++ cond_text c ++ codes ") " ++ text.body_text (map stmt_text body) level) rest ∙ (let e : (codes "while (" ++ cond_text c ++ codes ") " ++ text.body_text (map stmt_text body) level) ++ 10 ∷ rest ≡ 119 ∷ 104 ∷ 105 ∷ 108 ∷ 101 ∷ 32 ∷ 40 ∷ (cond_text c ++ 41 ∷ 32 ∷ (text.body_text (map stmt_text body) level ++ (10 ∷ rest))) = assoc4 (codes "while (") (cond_text c) (codes ") ") (text.body_text (map stmt_text body) level) ((10 ∷ rest)) in ap (lex []) e) ∙
        after (codes "while") (opens _ _ ((cond_lexes c).reads _ (t.Close ∷ tokens.body_tokens (map stmt_tokens body) r) (refl, refl) (after (codes ")") (body_read stmt_text stmt_tokens body hb level (10 ∷ rest) r h))));
  });
  do_while = λ body c hb. stmt_layer (CStmt-F.DoWhile body c) (record {
    reads = λ level rest r h.
        lined level (codes "do " ++ text.body_text (map stmt_text body) level ++ codes " while (" ++ cond_text c ++ codes ");") rest ∙ (let e : (codes "do " ++ text.body_text (map stmt_text body) level ++ codes " while (" ++ cond_text c ++ codes ");") ++ 10 ∷ rest ≡ 100 ∷ 111 ∷ 32 ∷ (text.body_text (map stmt_text body) level ++ 32 ∷ 119 ∷ 104 ∷ 105 ∷ 108 ∷ 101 ∷ 32 ∷ 40 ∷ (cond_text c ++ 41 ∷ 59 ∷ (10 ∷ rest))) = assoc5 (codes "do ") (text.body_text (map stmt_text body) level) (codes " while (") (cond_text c) (codes ");") ((10 ∷ rest)) in ap (lex []) e) ∙
        after (codes "do") (body_read stmt_text stmt_tokens body hb level _ (t.While ∷ t.Open ∷ cond_tokens c (t.Close ∷ t.Semicolon ∷ r)) (after (codes "while") (opens _ _ ((cond_lexes c).reads _ (t.Close ∷ t.Semicolon ∷ r) (refl, refl) (after (codes ")") (after (codes ";") h))))));
  });
  break = stmt_layer CStmt-F.Break (record { reads = λ level rest r h. lined level (codes "break;") rest ∙ after (codes "break") (after (codes ";") h) });
  return = stmt_layer CStmt-F.Return (record { reads = λ level rest r h. lined level (codes "return;") rest ∙ after (codes "return") (after (codes ";") h) });
  arm_of = λ c body hb. arm_layer (record { test = c; body = body }) (record {
    reads = λ level rest r h.
        (let e : (codes "if (" ++ cond_text c ++ codes ") " ++ text.body_text (map stmt_text body) level) ++ rest ≡ 105 ∷ 102 ∷ 32 ∷ 40 ∷ (cond_text c ++ 41 ∷ 32 ∷ (text.body_text (map stmt_text body) level ++ rest)) = assoc4 (codes "if (") (cond_text c) (codes ") ") (text.body_text (map stmt_text body) level) (rest) in ap (lex []) e) ∙
        after (codes "if") (opens _ _ ((cond_lexes c).reads _ (t.Close ∷ tokens.body_tokens (map stmt_tokens body) r) (refl, refl) (after (codes ")") (body_read stmt_text stmt_tokens body hb level rest r h))));
  });
  group_of = λ vs body hb. group_layer (record { values = vs; body = body }) (record {
    reads = λ level rest r h.
        lined level (cases_text vs ++ text.body_text (map stmt_text body) level ++ codes " break;") rest ∙ (let e : (cases_text vs ++ text.body_text (map stmt_text body) level ++ codes " break;") ++ 10 ∷ rest ≡ (cases_text vs ++ (text.body_text (map stmt_text body) level ++ 32 ∷ 98 ∷ 114 ∷ 101 ∷ 97 ∷ 107 ∷ 59 ∷ (10 ∷ rest))) = assoc3 (cases_text vs) (text.body_text (map stmt_text body) level) (codes " break;") ((10 ∷ rest)) in ap (lex []) e) ∙
        cases_read vs _ (tokens.body_tokens (map stmt_tokens body) (t.Break ∷ t.Semicolon ∷ r)) (body_read stmt_text stmt_tokens body hb level _ (t.Break ∷ t.Semicolon ∷ r) (after (codes "break") (after (codes ";") h)));
  });
}

-- the statements of a function
stmts_read : (ss : List CStmt) (level : ℕ) (rest : List ℕ) (r : List Token) → lex [] rest ≡ spelt r → lex [] (stmts_text ss level ++ rest) ≡ spelt (stmts_tokens ss r)
stmts_read [] level rest r h = h
stmts_read (s ∷ ss) level rest r h =
    ap (lex []) (append_assoc (stmt_text s level) (stmts_text ss level) rest) ∙ (every_stmt stmt_reads s).reads level _ _ (stmts_read ss level rest r h)

-- the declarations of a kind
decls_read : (kind : ℕ → Name) (n : ℕ) (rest : List ℕ) (r : List Token) → lex [] rest ≡ spelt r → lex [] (decls_text kind n ++ rest) ≡ spelt (decls_tokens kind n r)
decls_read kind zero rest r h = h
decls_read kind (suc n) rest r h =
    ap (lex []) (append_assoc (decls_text kind n) (line 1 (codes "uint32_t " ++ name_text (kind n) ++ codes " = 0u;")) rest) ∙
    decls_read kind n _ (t.Uint32 ∷ t.Name (kind n) ∷ t.Assign ∷ t.Zero ∷ t.Semicolon ∷ r)
    (lined 1 (codes "uint32_t " ++ name_text (kind n) ++ codes " = 0u;") rest ∙ (let e : (codes "uint32_t " ++ name_text (kind n) ++ codes " = 0u;") ++ 10 ∷ rest ≡ 117 ∷ 105 ∷ 110 ∷ 116 ∷ 51 ∷ 50 ∷ 95 ∷ 116 ∷ 32 ∷ (name_text (kind n) ++ 32 ∷ 61 ∷ 32 ∷ 48 ∷ 117 ∷ 59 ∷ (10 ∷ rest)) = assoc3 (codes "uint32_t ") (name_text (kind n)) (codes " = 0u;") ((10 ∷ rest)) in ap (lex []) e) ∙
    after (codes "uint32_t") (name_step (kind n) _ (t.Assign ∷ t.Zero ∷ t.Semicolon ∷ r) (refl, refl) (after (codes "=") (after (codes "0u") (after (codes ";") h)))))

-- what comes after the include line
fun_read : (f : CFun) → lex [] (fun_text f) ≡ spelt (fun_tokens f)
fun_read f =
    (let e : fun_text f ≡ 10 ∷ 118 ∷ 111 ∷ 105 ∷ 100 ∷ 32 ∷ (function_text f.address ++ 40 ∷ 118 ∷ 111 ∷ 105 ∷ 100 ∷ 41 ∷ 10 ∷ 123 ∷ 10 ∷ (decls_text name.T f.temps ++ (decls_text name.B f.bools ++ (decls_text name.S f.selectors ++ (stmts_text f.body 1 ++ (codes "}\n")))))) = assoc7 (codes "\nvoid ") (function_text f.address) (codes "(void)\n{\n") (decls_text name.T f.temps) (decls_text name.B f.bools) (decls_text name.S f.selectors) (stmts_text f.body 1) (codes "}\n") in ap (lex []) e) ∙
    after (codes "void") (function_step f.address (codes "(void)\n{\n" ++ (decls_text name.T f.temps ++ (decls_text name.B f.bools ++ (decls_text name.S f.selectors ++ (stmts_text f.body 1 ++ codes "}\n"))))) (t.Open ∷ t.Void ∷ t.Close ∷ t.Begin ∷ decls_tokens name.T f.temps (decls_tokens name.B f.bools (decls_tokens name.S f.selectors (stmts_tokens f.body (t.End ∷ []))))) (refl, refl)
    (after (codes "(") (after (codes "void") (after (codes ")") (after (codes "{")
    (decls_read name.T f.temps (decls_text name.B f.bools ++ (decls_text name.S f.selectors ++ (stmts_text f.body 1 ++ codes "}\n"))) (decls_tokens name.B f.bools (decls_tokens name.S f.selectors (stmts_tokens f.body (t.End ∷ [])))) (decls_read name.B f.bools (decls_text name.S f.selectors ++ (stmts_text f.body 1 ++ codes "}\n")) (decls_tokens name.S f.selectors (stmts_tokens f.body (t.End ∷ []))) (decls_read name.S f.selectors (stmts_text f.body 1 ++ codes "}\n") (stmts_tokens f.body (t.End ∷ [])) (stmts_read f.body 1 (codes "}\n") (t.End ∷ []) refl)))))))))

-- the law
pub canonical_stands : CanonicalStands
canonical_stands f w = record { rest = fun_text f; begins = refl; tokens = fun_read f; well_formed = w }
