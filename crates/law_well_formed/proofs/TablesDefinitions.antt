-- Procedures that a definition exports are numbered in their order.
use Rattle.std.proofs.Common.{◌≡◌, ℕ, suc, ◌+◌, Bool, true, false, cond, List, [], ◌∷◌, ◌++◌, length, Option, Some, None, Result, Ok, Err, refl, sym, ap, subst, ◌∙◌, append_assoc, arith}
use Rattle.std.specs.Prelude.{IfOk}
use Rattle.std.specs.List.{fold}
use Rattle.std.proofs.lemmas.List.{length-append, append-nil}
use Rattle.m2_rule.specs.declared.rule.Rule.TheVariants as rule
use Rattle.m2_tree.specs.declared.decl.Contents.{Contents}
use Rattle.m2_tree.specs.declared.decl.Contents.TheVariants as contents
use Rattle.m2_tree.specs.declared.decl.Def.{Def}
use Rattle.m2_tree.specs.declared.decl.Def.TheVariants as def
use Rattle.m2_tree.specs.declared.decl.Heading.{Heading}
use Rattle.m2_tree.specs.declared.decl.Module.{Module}
use Rattle.typed_tree.specs.declared.table.Table.{Table}
use Rattle.typed_tree.specs.declared.types.TypeNo.{TypeNo}
use Rattle.typed_tree.specs.declared.meaning.Meaning.TheVariants as meaning
use Rattle.m2_tree.specs.Names.{same_name}
use Rattle.typed_tree.specs.Names.{find_name, enter_name}
use Rattle.check_scope.specs.Elaborated.{Gathers, report, beside}
use Rattle.check_scope.specs.Scopes.{State, is_free, with_known, heading_means}
use Rattle.check_scope.specs.declared.known.Origin.TheVariants.{Module as FromModule, Export}
use Rattle.check_scope.specs.declared.known.Known.{Known}
use Rattle.check_scope.specs.declared.known.Known.TheVariants.{Later, Ahead, Begun, Headed, Declared}
use Rattle.check_scope.specs.declared.scope.Scope.{Scope}
use Rattle.check_type_expr.specs.Headings.{heading_of, names_of}
use Rattle.check_type_expr.specs.Made.{nothing_of, with_made}
use Rattle.check_definition.specs.Compiled.{table_or, declared_in, of_definition, of_contents, definition_table}
use Rattle.check_definition.specs.Declare.{procedure_meaning, with_procedure_type, declared_procedure, with_procedure, with_constant, with_type, with_variables, with_def}
use Rattle.check_definition.specs.Export.{exports}
use Rattle.check_definition.specs.Importing.{numbered_modules, with_import}
use Rattle.check_definition.specs.Marking.{marked_def}
use Rattle.check_definition.specs.Predeclared.{console, first_scope}
use Rattle.check_body.specs.Own.{exported_headings}
use Rattle.law_folds.proofs.Orders.{fact}
use Rattle.law_folds.proofs.MarkSteps.{KeepsMarks, defs_marks}
use Rattle.law_folds.proofs.ImportSteps.{KeepsImports, imports_keep}
use Rattle.law_folds.proofs.AgainSteps.{definition_reported}
use Rattle.law_well_formed.specs.FormedTables.{AreNumberedBy}
use Rattle.law_well_formed.proofs.Order.{has, keys, keys_entered, Distinct, distinct_entered, holds_of, TakenIn, other_rest, taken_entered, now_taken, is_taken, number_of, NoneDone, none_entered, Order, order_none, AllTaken, next_entered}
use Rattle.law_well_formed.proofs.Numbers.{exports_numbered}
use Rattle.law_well_formed.proofs.TablesSteps.{mark_more, Goes, fold_goes, made_goes, constant_goes, type_decl_goes, variables_go, import_goes}
use Rattle.law_well_formed.proofs.Takes.{beside_left, beside_right, marked_keys, all_marked, Covers, defs_keep, constants_all, types_all, variables_all, defs_reported}

free_untaken : {T : Type 0} (o : Option (Known T)) → is_free o ≡ true → holds_of is_taken o ≡ false
free_untaken None e = refl
free_untaken (Some Later) e = refl
free_untaken (Some Ahead) e = refl
free_untaken (Some Begun) e = absurd cc
free_untaken (Some (Headed r)) e = absurd cc
free_untaken (Some (Declared o r)) e = absurd cc

-- ---- marks and imports

module _ {T : Type 0} where
  taken_beside : (y name : List ℕ) (k : Known T) (es : List (List ℕ × Known T)) → find_name name es ≡ None
      → TakenIn es y → TakenIn (enter_name name k es) y
  taken_beside y name k [] n h = absurd cc
  taken_beside y name k (e ∷ es) n h = by (same_name name e.0) n (taken_beside y name k es) where
    by : (b : Bool) → cond b (Some e.1) (find_name name es) ≡ None
        → (find_name name es ≡ None → TakenIn es y → TakenIn (enter_name name k es) y)
        → TakenIn (cond b ((e.0, k) ∷ es) (e ∷ enter_name name k es)) y
    by true q f = absurd cc
    by false q f = other_rest (same_name y e.0) e.1 (find_name y es) (find_name y (enter_name name k es)) (f q) h

  taking : KeepsMarks {T = T} (λ s t. (y : List ℕ) → TakenIn s.own y → TakenIn t.own y)
  taking = record {
    order = record { same = λ s y h. h; next = λ a b c p q y h. q y (p y h) };
    later = λ s name e y h. taken_beside y name Later s.own e h;
    ahead = λ s name e y h. taken_beside y name Ahead s.own e h;
  }

  -- all names are taken, and none means a procedure that is declared here
  abbrev IsImported : Scope T → Type 0
  IsImported s = AllTaken (keys s.own) s.own × NoneDone s.own

  import_taken : (s : Scope T) (name : List ℕ) (k : Known T) → number_of k ≡ None → is_taken k ≡ true → IsImported s
      → IsImported (with_known name k s)
  import_taken s name k n t h =
      let own : List (List ℕ × Known T) = enter_name name k s.own in (
        subst (λ (ks : List (List ℕ)). AllTaken ks own) (sym (keys_entered name k s.own))
            (all_marked own name (keys s.own) (λ y z. taken_entered y name k s.own t (h.0 y z))
            (now_taken name k s.own t)),
        none_entered name k s.own n h.1,
      )

module _ (g : Gathers) where
  imported : KeepsImports g (λ s t. IsImported s → IsImported t)
  imported = record {
    order = fact IsImported;
    modules = λ s name n e h. import_taken s name (Declared (FromModule n) (Ok (meaning.Module n))) refl refl h;
    exports = λ s name n m e h. import_taken s name (Declared (Export n) (Ok m)) refl refl h;
  }

  -- where declarations begin: what was marked by those before is taken, and what is marked later stands behind it
  pub record Begins (s s0 : Scope g.Reported) (rest : List Def) : Type 0 where
    pub all : AllTaken (keys s0.own) s.own
    pub more : List (List ℕ)
    pub keys_are : keys s.own ≡ keys (fold marked_def s0 rest).own ++ more
    pub distinct : Distinct s.own
    pub order : Order 0 (length s.procedures) s.own

  -- a step that declares no procedure
  kept : (s s' s0 : Scope g.Reported) (rest : List Def) → Goes s s' → Begins s s0 rest → Begins s' s0 rest
  kept s s' s0 rest k b = record {
    all = λ y h. k.taken y (b.all y h);
    more = b.more ++ k.more;
    keys_are = k.keys_are ∙ ap (λ (ks : List (List ℕ)). ks ++ k.more) b.keys_are
        ∙ append_assoc (keys (fold marked_def s0 rest).own) b.more k.more;
    distinct = k.distinct b.distinct;
    order = subst (λ (ps : List TypeNo). Order 0 (length ps) s'.own) (sym k.procedures)
        (k.order (length s.procedures) b.order);
  }

  plain : (s s' s0 : Scope g.Reported) (d : Def) (rest : List Def) → Goes s s' → Covers s'.own (λ s. marked_def s d)
      → Begins s s0 (d ∷ rest) → Begins s' (marked_def s0 d) rest
  plain s s' s0 d rest k c b =
      let b' : Begins s' s0 (d ∷ rest) = kept s s' s0 (d ∷ rest) k b in
      record { all = c s0 b'.all; more = b'.more; keys_are = b'.keys_are; distinct = b'.distinct; order = b'.order }

  -- ---- a procedure

  new_name : (ks : List (List ℕ)) (name : List ℕ) (s : Scope g.Reported) → AllTaken ks s.own
      → is_free (find_name name s.own) ≡ true → has name ks ≡ false
  new_name ks name s all f = by (has name ks) refl where
    by : (b : Bool) → has name ks ≡ b → b ≡ false
    by false e = refl
    by true e = absurd (let t : holds_of is_taken (find_name name s.own) ≡ true = all name e in
        let u : holds_of is_taken (find_name name s.own) ≡ false = free_untaken (find_name name s.own) f in cc)

  next_known : (s s0 : Scope g.Reported) (h : Heading) (rest : List Def) (x : TypeNo)
      → is_free (find_name h.name.name s.own) ≡ true → Begins s s0 (def.Procedure h ∷ rest)
      → Begins (with_known h.name.name
      (Headed (heading_means false (procedure_meaning s.types.home (length s.procedures) (Ok x))))
      (with_procedure_type s (Ok x))) (marked_def s0 (def.Procedure h)) rest
  next_known s s0 h rest x f b =
      let name : List ℕ = h.name.name in
      let k : Known g.Reported =
      Headed (heading_means false (procedure_meaning s.types.home (length s.procedures) (Ok x))) in
      let s1 : Scope g.Reported = marked_def s0 (def.Procedure h) in
      let pre : List (List ℕ) = keys s0.own in
      let new : has name pre ≡ false = new_name pre name s b.all f in
      let mine : keys s1.own ≡ pre ++ name ∷ [] = marked_keys h.name Ahead s0
      ∙ ap (λ (c : Bool). cond c pre (pre ++ name ∷ [])) new in
      let later = defs_keep g.Reported rest s1 in
      let whole : keys s.own ≡ pre ++ name ∷ (later.more ++ b.more) =
      b.keys_are ∙ ap (λ (ks : List (List ℕ)). ks ++ b.more)
      (later.keys_are ∙ ap (λ (ks : List (List ℕ)). ks ++ later.more) mine
      ∙ append_assoc pre (name ∷ []) later.more)
      ∙ append_assoc pre (name ∷ later.more) b.more in
      let m = mark_more name (has name (keys s.own)) (keys s.own) in
      let count : length (s.procedures ++ x ∷ []) ≡ length s.procedures + 1 = length-append s.procedures (x ∷ []) in
      let one : suc (length s.procedures) ≡ length (s.procedures ++ x ∷ []) = omega (arith, count) in
      record {
        all = subst (λ (ks : List (List ℕ)). AllTaken ks (with_known name k s).own) (sym (marked_keys h.name Ahead s0))
            (all_marked (with_known name k s).own name pre (λ y z. taken_entered y name k s.own refl (b.all y z))
            (now_taken name k s.own refl));
        more = b.more ++ m.0;
        keys_are = keys_entered name k s.own ∙ m.1 ∙ ap (λ (ks : List (List ℕ)). ks ++ m.0) b.keys_are
            ∙ append_assoc (keys (fold marked_def s1 rest).own) b.more m.0;
        distinct = distinct_entered name k s.own b.distinct;
        order = subst (λ (c : ℕ). Order 0 c (with_known name k s).own) one
            (next_entered name k (length s.procedures) refl s.own pre (later.more ++ b.more) b.distinct whole b.all f 0
            b.order);
      }

  next_by : (c : Bool) (s s0 : Scope g.Reported) (h : Heading) (rest : List Def) (x : TypeNo) (k : Known g.Reported)
      → Begins (with_known h.name.name k (with_procedure_type s (Ok x))) (marked_def s0 (def.Procedure h)) rest
      → (cond {A = State (Unit {0}) g.Reported} c (with_known h.name.name k (with_procedure_type s (Ok x)), Ok tt)
      (with_procedure_type s (Ok x), report g h.name.pos rule.DeclaredTwice)).1 ≡ Ok tt
      → Begins (cond {A = State (Unit {0}) g.Reported} c
      (with_known h.name.name k (with_procedure_type s (Ok x)), Ok tt)
      (with_procedure_type s (Ok x), report g h.name.pos rule.DeclaredTwice)).0 (marked_def s0 (def.Procedure h))
      rest
  next_by true s s0 h rest x k b e = b
  next_by false s s0 h rest x k b e = absurd cc

  free_if : (c : Bool) (s : Scope g.Reported) (st : State (Unit {0}) g.Reported) (h : Heading)
      → (cond {A = State (Unit {0}) g.Reported} c st (s, report g h.name.pos rule.DeclaredTwice)).1 ≡ Ok tt → c ≡ true
  free_if true s st h e = refl
  free_if false s st h e = absurd cc

  procedure_declared : (s s0 : Scope g.Reported) (h : Heading) (rest : List Def) (t : Result TypeNo g.Reported)
      → Begins s s0 (def.Procedure h ∷ rest) → nothing_of t ≡ Ok tt → (declared_procedure g s h.name t).1 ≡ Ok tt
      → Begins (declared_procedure g s h.name t).0 (marked_def s0 (def.Procedure h)) rest
  procedure_declared s s0 h rest (Err z) b e q = absurd cc
  procedure_declared s s0 h rest (Ok x) b e q =
      let f : is_free (find_name h.name.name s.own) ≡ true =
      free_if (is_free (find_name h.name.name s.own)) (with_procedure_type s (Ok x)) _ h q in
      next_by (is_free (find_name h.name.name s.own)) s s0 h rest x
      (Headed (heading_means false (procedure_meaning s.types.home (length s.procedures) (Ok x))))
      (next_known s s0 h rest x f b) q

  procedure_begins : (st : State (Unit {0}) g.Reported) (s0 : Scope g.Reported) (h : Heading) (rest : List Def)
      → (with_procedure g st h).1 ≡ Ok tt → Begins st.0 s0 (def.Procedure h ∷ rest)
      → Begins (with_procedure g st h).0 (marked_def s0 (def.Procedure h)) rest
  procedure_begins st s0 h rest e b =
      let t : State TypeNo g.Reported = with_made st.0 (heading_of g st.0 h) in
      let d : State (Unit {0}) g.Reported = declared_procedure g t.0 h.name t.1 in
      let all : beside g (names_of g h) (beside g (nothing_of t.1) d.1) ≡ Ok tt = beside_right g st.1 _ e in
      let both : beside g (nothing_of t.1) d.1 ≡ Ok tt =
      beside_right g (names_of g h) (beside g (nothing_of t.1) d.1) all in
      procedure_declared t.0 s0 h rest t.1 (kept st.0 t.0 s0 (def.Procedure h ∷ rest)
      (made_goes st.0 (heading_of g st.0 h)) b) (beside_left g (nothing_of t.1) d.1 both)
      (beside_right g (nothing_of t.1) d.1 both)

  -- ---- all of them

  def_begins : (st : State (Unit {0}) g.Reported) (s0 : Scope g.Reported) (d : Def) (rest : List Def)
      → (with_def g st d).1 ≡ Ok tt → Begins st.0 s0 (d ∷ rest) → Begins (with_def g st d).0 (marked_def s0 d) rest
  def_begins st s0 (def.Constants cs) rest e b =
      plain st.0 (fold (with_constant g) st cs).0 s0 (def.Constants cs) rest
      (fold_goes (λ (st : State (Unit {0}) g.Reported). st.0) (with_constant g) (constant_goes g) cs st)
      (constants_all g cs st e (fold (with_constant g) st cs).0.own (λ y h. h)) b
  def_begins st s0 (def.Types ts) rest e b =
      plain st.0 (fold (with_type g) st ts).0 s0 (def.Types ts) rest
      (fold_goes (λ (st : State (Unit {0}) g.Reported). st.0) (with_type g) (type_decl_goes g) ts st)
      (types_all g ts st e (fold (with_type g) st ts).0.own (λ y h. h)) b
  def_begins st s0 (def.Variables vs) rest e b =
      plain st.0 (fold (with_variables g) st vs).0 s0 (def.Variables vs) rest
      (fold_goes (λ (st : State (Unit {0}) g.Reported). st.0) (with_variables g) (variables_go g) vs st)
      (variables_all g vs st e (fold (with_variables g) st vs).0.own (λ y h. h)) b
  def_begins st s0 (def.Procedure h) rest e b = procedure_begins st s0 h rest e b

  all_end : (ds : List Def) (st : State (Unit {0}) g.Reported) (s0 : Scope g.Reported)
      → (fold (with_def g) st ds).1 ≡ Ok tt → Begins st.0 s0 ds
      → Begins (fold (with_def g) st ds).0 (fold marked_def s0 ds) []
  all_end [] st s0 e b = b
  all_end (d ∷ ds) st s0 e b = all_end ds (with_def g st d) (marked_def s0 d) e
      (def_begins st s0 d ds (defs_reported g ds (with_def g st d) e) b)

  module _ (home : ℕ) (m : Module) where
    none_taken : (own : List (List ℕ × Known g.Reported)) → AllTaken [] own
    none_taken own y h = absurd cc

    abbrev begun : List (List ℕ × ℕ) → List Table → State (Unit {0}) g.Reported
    begun modules tables = fold (with_import g modules) (first_scope home tables, Ok tt) m.imports

    first_begins : (modules : List (List ℕ × ℕ)) (tables : List Table) (defs : List Def)
        → Begins (fold marked_def (begun modules tables).0 defs) (begun modules tables).0 defs
    first_begins modules tables defs =
        let s : Scope g.Reported = first_scope home tables in
        let i : Scope g.Reported = (begun modules tables).0 in
        let b = import_goes g modules m.imports (s, Ok tt) in
        let t : IsImported i = imports_keep g imported modules m.imports (s, Ok tt) (none_taken [], tt) in
        let k = defs_keep g.Reported defs i in
        record {
          all = λ y h. defs_marks taking defs i y (t.0 y h);
          more = [];
          keys_are = sym (append-nil (keys (fold marked_def i defs).own));
          distinct = k.distinct (b.distinct tt);
          order = subst (λ (ps : List TypeNo). Order 0 (length ps) (fold marked_def i defs).own)
              (sym (k.procedures ∙ b.procedures)) (order_none 0 0 (fold marked_def i defs).own (k.none t.1) refl);
        }

    numbered_or : (modules : List (List ℕ × ℕ)) (s : Scope g.Reported) (r : Result (Unit {0}) g.Reported)
        → (r ≡ Ok tt → AreNumberedBy (exported_headings (exports s.own)) (exports s.own))
        → IfOk (table_or m modules s r) (λ t. AreNumberedBy (exported_headings t.exported) t.exported)
    numbered_or modules s (Ok x) p = p refl
    numbered_or modules s (Err f) p = tt

    definition_numbers : (tables : List Table) (defs : List Def)
        → IfOk (of_definition g home m tables defs) (λ t. AreNumberedBy (exported_headings t.exported) t.exported)
    definition_numbers tables defs =
        let modules = (numbered_modules tables).0 in
        let s : Scope g.Reported = first_scope home tables in
        let st = declared_in g m modules s defs in
        numbered_or modules st.0 st.1 (λ e.
        let i : State (Unit {0}) g.Reported = begun modules tables in
        let b = all_end defs (fold marked_def i.0 defs, i.1) i.0 (definition_reported g m modules s defs e)
        (first_begins modules tables defs) in
        exports_numbered st.0.own (length st.0.procedures) b.distinct b.order)

    contents_number : (tables : List Table) (c : Contents)
        → IfOk (of_contents g home m tables c) (λ t. AreNumberedBy (exported_headings t.exported) t.exported)
    contents_number tables (contents.Definition defs) = definition_numbers tables defs
    contents_number tables (contents.Implementation b) = tt
    contents_number tables (contents.Program b) = tt

pub tables_number : (g : Gathers) (home : ℕ) (m : Module) (tables : List Table)
    → IfOk (definition_table g home m tables) (λ t. AreNumberedBy (exported_headings t.exported) t.exported)
tables_number g home m tables = contents_number g home m (tables ++ console ∷ []) m.contents
