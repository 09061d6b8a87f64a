-- What imports bring into the block of a module: from open modules, and declarations keep it.
use Rattle.std.proofs.Common.{◌≡◌, ℕ, zero, suc, ◌==◌, Bool, true, false, cond, List, [], ◌∷◌, take, drop, Option, Some, None, Result, Ok, Err, sym, subst}
use Rattle.std.specs.Prelude.{slice_get}
use Rattle.std.specs.List.{AllByRecursion, fold}
use Rattle.m2_rule.specs.declared.rule.Rule.TheVariants as rule
use Rattle.m2_tree.specs.declared.pos.Pos.{Pos}
use Rattle.m2_tree.specs.declared.name.Ident.{Ident}
use Rattle.m2_tree.specs.declared.decl.Decl.{Decl}
use Rattle.m2_tree.specs.declared.decl.Import.{Import}
use Rattle.m2_tree.specs.declared.decl.Module.{Module as Tree}
use Rattle.typed_tree.specs.declared.meaning.Meaning.{Meaning}
use Rattle.typed_tree.specs.declared.meaning.Meaning.TheVariants as meaning
use Rattle.typed_tree.specs.declared.table.Table.{Table}
use Rattle.typed_tree.specs.declared.typed_module.TypedModule.{TypedModule}
use Rattle.typed_tree.specs.declared.types.TypeNo.{TypeNo}
use Rattle.m2_tree.specs.Names.{same_name}
use Rattle.typed_tree.specs.Names.{find_name, enter_name, place_of}
use Rattle.check_scope.specs.Elaborated.{Gathers, report}
use Rattle.check_scope.specs.Scopes.{State, is_free, with_known, is_again, import_name}
use Rattle.check_scope.specs.declared.known.Known.{Known}
use Rattle.check_scope.specs.declared.known.Known.TheVariants.{Later, Ahead, Begun, Headed, Declared}
use Rattle.check_scope.specs.declared.known.Origin.{Origin}
use Rattle.check_scope.specs.declared.known.Origin.TheVariants.{Here, Module, Export}
use Rattle.check_scope.specs.declared.scope.Scope.{Scope}
use Rattle.check_definition.specs.Importing.{module_found, with_module_as, with_module_name, with_entry, brings_in, reported_of_taken, unless_taken, from_place, with_from, exports_of, from_module, with_imports, with_import}
use Rattle.check_definition.specs.Declare.{with_variable_type, with_procedure_type}
use Rattle.check_block.specs.Declarations.{declared_module}
use Rattle.check_body.specs.Own.{with_own_name, own_names}
use Rattle.law_well_formed.specs.Formed.{fine}
use Rattle.law_well_formed.proofs.Basics.{holds_weaker}
use Rattle.law_well_formed.specs.FormedScopes.{OpensNames, OpensImports}
use Rattle.law_well_formed.proofs.ScopesImports.{OpensImport, OpensAll}
use Rattle.law_well_formed.specs.FormedTables.{IsExport, AreExports}
use Rattle.law_programs.proofs.Preserved.{IsOuter, BroughtFrom, KnownBrought, NamesBrought, IsPlain, block_keeps}

module _ (F : Meaning → Type 0) where
  names_by : {T : Type 0} (b : Bool) (k : Known T) (e : List ℕ × Known T) (es more : List (List ℕ × Known T))
      → KnownBrought F k → NamesBrought F (e ∷ es) → NamesBrought F more
      → NamesBrought F (cond b ((e.0, k) ∷ es) (e ∷ more))
  names_by true k e es more p all q = (p, all.1)
  names_by false k e es more p all q = (all.0, q)

  names_more : {T : Type 0} (name : List ℕ) (k : Known T) (es : List (List ℕ × Known T)) → KnownBrought F k
      → NamesBrought F es → NamesBrought F (enter_name name k es)
  names_more name k [] p all = (p, tt)
  names_more name k (e ∷ es) p all = names_by (same_name name e.0) k e es (enter_name name k es) p all
      (names_more name k es p all.1)

  plain_from : {T : Type 0} (o : Origin) (r : Result Meaning T) → BroughtFrom (λ m. ⊥) o r → BroughtFrom F o r
  plain_from Here r p = p
  plain_from (Module k) r p = holds_weaker (λ x n. absurd n) p
  plain_from (Export k) r p = holds_weaker (λ x n. absurd n) p

  plain_known : {T : Type 0} (k : Known T) → IsPlain k → KnownBrought F k
  plain_known Later p = tt
  plain_known Ahead p = tt
  plain_known Begun p = tt
  plain_known (Headed r) p = p
  plain_known (Declared o r) p = plain_from o r p

  -- ---- the names of a module's own definition

  outer_export : (home : ℕ) (m : Meaning) → IsExport home m → IsOuter m
  outer_export home (meaning.Constant v) e = tt
  outer_export home (meaning.Type t n) e = tt
  outer_export home (meaning.Variable v) e = tt
  outer_export home (meaning.Local v) e = tt
  outer_export home (meaning.Field f) e = tt
  outer_export home (meaning.Procedure p) e = tt
  outer_export home (meaning.LocalProcedure p) e = e
  outer_export home meaning.Ahead e = tt
  outer_export home (meaning.Standard f) e = tt
  outer_export home (meaning.Module k) e = tt

  own_from : {T : Type 0} (home : ℕ) (es : List (List ℕ × Meaning)) (so : List (List ℕ × Known T)) → AreExports home es
      → NamesBrought F so → NamesBrought F (fold with_own_name so es)
  own_from home [] so p k = k
  own_from home (e ∷ es) so p k = own_from home es (with_own_name so e) p.1
      (names_more e.0 (Declared Here (Ok e.1)) so (fine e.1 (outer_export home e.1 p.0)) k)

  pub own_brought : (T : Type 0) (home : ℕ) (es : List (List ℕ × Meaning)) → AreExports home es
      → NamesBrought F {T = T} (own_names es)
  own_brought T home es p = own_from home es [] p tt

  -- ---- what is exported

  abbrev pub AllExports : List (List ℕ × Meaning) → Type 0
  AllExports es = AllByRecursion (λ e. F e.1) es

  taken : (n : ℕ) (es : List (List ℕ × Meaning)) → AllExports es → AllExports (take n es)
  taken zero es k = tt
  taken (suc n) [] k = tt
  taken (suc n) (e ∷ es) k = (k.0, taken n es k.1)

  dropped : (n : ℕ) (es : List (List ℕ × Meaning)) → AllExports es → AllExports (drop n es)
  dropped zero es k = k
  dropped (suc n) [] k = tt
  dropped (suc n) (e ∷ es) k = dropped n es k.1

  module _ (g : Gathers) (opens : ℕ → Bool) (tables : List Table)
      (opened : (n : ℕ) → opens n ≡ true → F (meaning.Module n))
      (exporting : (n : ℕ) → opens n ≡ true → AllExports (exports_of (slice_get tables n))) where
    -- the scope of a module's block, with these tables
    pub record IsBrought (s : Scope g.Reported) : Type 0 where
      pub tables_are : s.tables ≡ tables
      pub outermost : (s.level == 0) ≡ true
      pub names : NamesBrought F s.own

    known_brought : (s : Scope g.Reported) (name : List ℕ) (k : Known g.Reported) → KnownBrought F k → IsBrought s
        → IsBrought (with_known name k s)
    known_brought s name k p h = record {
      tables_are = h.tables_are;
      outermost = h.outermost;
      names =
          names_more name k s.own p h.names;
    }

    -- ---- imports

    free_by : (s : Scope g.Reported) (at : Pos) (name : List ℕ) (k : Known g.Reported) (b : Bool) → KnownBrought F k
        → IsBrought s → IsBrought (cond {A = State (Unit {0}) g.Reported} b (with_known name k s, Ok tt)
        (s, report g at rule.DeclaredTwice)).0
    free_by s at name k true p h = known_brought s name k p h
    free_by s at name k false p h = h

    again_by : (s : Scope g.Reported) (x : State (Unit {0}) g.Reported) (b : Bool) → IsBrought s → IsBrought x.0
        → IsBrought (cond {A = State (Unit {0}) g.Reported} b (s, Ok tt) x).0
    again_by s x true h p = h
    again_by s x false h p = p

    imported_brought : (s : Scope g.Reported) (at : Pos) (name : List ℕ) (o : Origin) (r : Result Meaning g.Reported)
        → BroughtFrom F o r → IsBrought s → IsBrought (import_name g s at name o r).0
    imported_brought s at name o r p h = again_by s _ (is_again (find_name name s.own) o) h
        (free_by s at name (Declared o r) (is_free (find_name name s.own)) p h)

    module_by : (s : Scope g.Reported) (name : Ident) (o : Option ℕ) → OpensNames opens o → IsBrought s
        → IsBrought (with_module_as g s name (module_found g name.pos o)).0
    module_by s name None k h = h
    module_by s name (Some n) k h = imported_brought s name.pos name.name (Module n) (Ok (meaning.Module n))
        (fine (meaning.Module n) (opened n k)) h

    modules_brought : (modules : List (List ℕ × ℕ)) (names : List Ident) (st : State (Unit {0}) g.Reported)
        → OpensImports opens modules names → IsBrought st.0 → IsBrought (fold (with_module_name g modules) st names).0
    modules_brought modules [] st k h = h
    modules_brought modules (x ∷ xs) st k h =
        modules_brought modules xs (with_module_name g modules st x) k.1
        (module_by st.0 x (find_name x.name modules) k.0 h)

    entries_brought : (at : Pos) (n : ℕ) (es : List (List ℕ × Meaning)) (st : State (Unit {0}) g.Reported)
        → AllExports es → IsBrought st.0 → IsBrought (fold (with_entry g at n) st es).0
    entries_brought at n [] st k h = h
    entries_brought at n (e ∷ es) st k h =
        entries_brought at n es (with_entry g at n st e) k.1
        (imported_brought st.0 at e.0 (Export n) (Ok e.1) (fine e.1 k.0) h)

    taken_brought : (s : Scope g.Reported) (at : Pos) (n : ℕ) (es : List (List ℕ × Meaning)) (i : ℕ)
        (o : Option (Result (Unit {0}) g.Reported)) → AllExports es → IsBrought s
        → IsBrought (unless_taken g s at n es i o).0
    taken_brought s at n es i (Some j) k h = h
    taken_brought s at n es i None k h = entries_brought at n (take (brings_in (slice_get es i)) (drop i es)) (s, Ok tt)
        (taken (brings_in (slice_get es i)) (drop i es) (dropped i es k)) h

    place_brought : (s : Scope g.Reported) (name : Ident) (n : ℕ) (es : List (List ℕ × Meaning)) (o : Option ℕ)
        → AllExports es → IsBrought s → IsBrought (from_place g s name n es o).0
    place_brought s name n es None k h = h
    place_brought s name n es (Some i) k h =
        taken_brought s name.pos n es i (reported_of_taken g name.pos n (find_name name.name s.own)) k h

    from_brought : (n : ℕ) (es : List (List ℕ × Meaning)) (names : List Ident) (st : State (Unit {0}) g.Reported)
        → AllExports es → IsBrought st.0 → IsBrought (fold (with_from g n es) st names).0
    from_brought n es [] st k h = h
    from_brought n es (x ∷ xs) st k h = from_brought n es xs (with_from g n es st x) k
        (place_brought st.0 x n es (place_of x.name es) k h)

    from_by : (at : Pos) (st : State (Unit {0}) g.Reported) (names : List Ident) (o : Option ℕ) → OpensNames opens o
        → IsBrought st.0 → IsBrought (from_module g (module_found g at o) st names).0
    from_by at st names None k h = h
    from_by at st names (Some n) k h =
        from_brought n (exports_of (slice_get st.0.tables n)) names st
        (subst (λ (ts : List Table). AllExports (exports_of (slice_get ts n))) (sym h.tables_are) (exporting n k)) h

    module _ (made : TypedModule) (modules : List (List ℕ × ℕ)) where
      import_brought : (st : State (Unit {0}) g.Reported) (o : Option Ident) (names : List Ident)
          → OpensImport made opens g modules o names → IsBrought st.0 → IsBrought (with_imports g modules st o names).0
      import_brought st None names k h = modules_brought modules names st k h
      import_brought st (Some n) names k h = from_by n.pos st names (find_name n.name modules) k h

      imports_brought : (is : List Import) (st : State (Unit {0}) g.Reported) → OpensAll made opens g modules is
          → IsBrought st.0 → IsBrought (fold (with_import g modules) st is).0
      imports_brought [] st k h = h
      imports_brought (i ∷ is) st k h = imports_brought is (with_import g modules st i) k.1
          (import_brought st i.from i.names k.0 h)

      -- ---- declarations

      varied : (s : Scope g.Reported) (t : Result TypeNo g.Reported) → IsBrought s → IsBrought (with_variable_type s t)
      varied s (Ok t) h = record { tables_are = h.tables_are; outermost = h.outermost; names = h.names }
      varied s (Err e) h = h

      headed : (s : Scope g.Reported) (t : Result TypeNo g.Reported) → IsBrought s → IsBrought (with_procedure_type s t)
      headed s (Ok t) h = record { tables_are = h.tables_are; outermost = h.outermost; names = h.names }
      headed s (Err e) h = h

      pub module_brought : (ends : List ℕ) (s : Scope g.Reported) (m : Tree) (ds : List Decl)
          → OpensAll made opens g modules m.imports → IsBrought s → IsBrought (declared_module g modules ends s m ds).0
      module_brought ends s m ds k h =
          block_keeps g IsBrought (λ s name k p h. known_brought s name k (plain_known k p) h) (λ s h. h.outermost)
          (λ s x h. record { tables_are = h.tables_are; outermost = h.outermost; names = h.names }) varied headed
          ends
          (fold (with_import g modules) (s, Ok tt) m.imports) 0 ds (imports_brought m.imports (s, Ok tt) k h)
