-- Marks, imports, whole blocks, and the way into procedures and back keep types in order.
use Rattle.std.proofs.Common.{◌≡◌, ℕ, zero, suc, Bool, true, false, cond, List, [], ◌∷◌, ◌++◌, length, Option, Some, None, Result, Ok, sym, subst, inl, inr}
use Rattle.std.specs.Prelude.{slice_get}
use Rattle.std.specs.List.{fold}
use Rattle.std.specs.Option.{is_some}
use Rattle.m2_tree.specs.declared.name.Ident.{Ident}
use Rattle.m2_tree.specs.declared.decl.Section.{Section}
use Rattle.m2_tree.specs.declared.decl.Heading.{Heading}
use Rattle.m2_tree.specs.declared.decl.Import.{Import}
use Rattle.m2_tree.specs.declared.decl.Module.{Module}
use Rattle.m2_tree.specs.declared.decl.Def.{Def}
use Rattle.m2_tree.specs.declared.decl.Decl.{Decl, out-Decl}
use Rattle.typed_tree.specs.declared.types.TypeNo.{TypeNo}
use Rattle.typed_tree.specs.declared.shape.Formal.{Formal}
use Rattle.typed_tree.specs.declared.meaning.Meaning.{Meaning}
use Rattle.typed_tree.specs.declared.meaning.Meaning.TheVariants as meaning
use Rattle.typed_tree.specs.declared.table.Table.{Table}
use Rattle.typed_tree.specs.declared.known_types.Types.{Types}
use Rattle.law_folds.proofs.Orders.{fact}
use Rattle.law_folds.proofs.ImportSteps.{Among, KeepsExports, imports_bring}
use Rattle.law_folds.proofs.AgainSteps.{defs_report, decls_report}
use Rattle.law_folds.proofs.MarkSteps.{KeepsMarks, defs_marks, decls_marks}
use Rattle.law_well_formed.specs.Ordered.{is_known, AreKnown}
use Rattle.typed_tree.specs.Names.{find_name, enter_name}
use Rattle.check_scope.specs.Elaborated.{Gathers}
use Rattle.check_scope.specs.Scopes.{State}
use Rattle.check_scope.specs.declared.known.Known.{Known}
use Rattle.check_scope.specs.declared.known.Known.TheVariants.{Later, Ahead, Declared}
use Rattle.check_scope.specs.declared.known.Origin.TheVariants.{Here}
use Rattle.check_scope.specs.declared.scope.Block.{Block}
use Rattle.check_scope.specs.declared.scope.Scope.{Scope}
use Rattle.check_type_expr.specs.Headings.{formal_of}
use Rattle.check_definition.specs.Marking.{marked_def}
use Rattle.check_definition.specs.Importing.{exports_of, with_import}
use Rattle.check_definition.specs.Declare.{with_def}
use Rattle.check_definition.specs.Compiled.{declared_in}
use Rattle.check_block.specs.Naming.{marked_decl, all_marked}
use Rattle.check_block.specs.Declarations.{Course, with_decl, declared_block, declared_module}
use Rattle.check_scope.specs.declared.inner.Outside.{Outside}
use Rattle.check_scope.specs.Inwards.{inwards, split_last, pop_block, left_procedure}
use Rattle.check_block.specs.Inner.{formal_meaning, with_formal_type, Formals, with_formal, with_section, entered_procedure}
use Rattle.law_well_formed.specs.Formed.{Holds, fine, broken}
use Rattle.law_well_formed.proofs.Basics.{then_holds, holds_weaker, holds_later}
use Rattle.law_well_formed.proofs.RangesMade.{beside_then, const_holds}
use Rattle.law_well_formed.specs.FormedOrder.{MeaningOrdered, KnownOrdered, NamesOrdered, BlocksOrdered, ExportsOrdered, TablesOrdered, ScopeOrdered, StateOrdered}
use Rattle.law_well_formed.proofs.OrderTypes.{known_more}
use Rattle.law_well_formed.proofs.Named.{names_more, known_ordered}
use Rattle.law_well_formed.proofs.OrderMade.{formal_ordered}
use Rattle.law_well_formed.proofs.OrderDeclarations.{def_ordered, decl_ordered}

module _ (base : Types) where
  -- ---- marks

  marks : {T : Type 0} → KeepsMarks {T = T} (λ s t. ScopeOrdered base s → ScopeOrdered base t)
  marks = record {
    order = fact (λ s. ScopeOrdered base s);
    later = λ s name e h. known_ordered base s name Later h tt;
    ahead = λ s name e h. known_ordered base s name Ahead h tt;
  }

  -- ---- imports

  exports_ordered : (types : Types) (ts : List Table) (k : ℕ) → TablesOrdered types ts
      → ExportsOrdered types (exports_of (slice_get ts k))
  exports_ordered types [] k p = tt
  exports_ordered types (t ∷ ts) zero p = p.0
  exports_ordered types (t ∷ ts) (suc k) p = exports_ordered types ts k p.1

  exported_ordered : (types : Types) (es : List (List ℕ × Meaning)) (x : List ℕ × Meaning) → ExportsOrdered types es
      → Among x es → MeaningOrdered types x.1
  exported_ordered types [] x p a = absurd a
  exported_ordered types (e ∷ es) x p (inl q) = subst (λ (z : List ℕ × Meaning). MeaningOrdered types z.1) (sym q) p.0
  exported_ordered types (e ∷ es) x p (inr a) = exported_ordered types es x p.1 a

  module _ (g : Gathers) where
    imports : KeepsExports g (λ s t. ScopeOrdered base s → ScopeOrdered base t)
    imports = record {
      order = fact (λ s. ScopeOrdered base s);
      modules = λ s name n e h. known_ordered base s name _ h (fine (meaning.Module n) tt);
      exports =
          λ s x n e a h. known_ordered base s x.0 _ h
          (fine x.1 (exported_ordered s.types _ x (exports_ordered s.types s.tables n h.tables) a));
    }

    imports_ordered : (modules : List (List ℕ × ℕ)) (is : List Import) (st : State (Unit {0}) g.Reported)
        → ScopeOrdered base st.0 → StateOrdered base (fold (with_import g modules) st is)
    imports_ordered modules is st h = const_holds (imports_bring g imports modules is st h) _

    -- ---- blocks

    decls_ordered : (ends : List ℕ) (ds : List Decl) (c : Course g.Reported) → StateOrdered base (c.0, c.1)
        → StateOrdered base (let n = fold (with_decl g ends) c ds in (n.0, n.1))
    decls_ordered ends [] c p = p
    decls_ordered ends (d ∷ ds) c p = decls_ordered ends ds (with_decl g ends c d)
        (decl_ordered base g ends c p (out-Decl d))

    pub block_ordered : (ends : List ℕ) (st : State (Unit {0}) g.Reported) (first : ℕ) (ds : List Decl)
        → StateOrdered base st → StateOrdered base (let d = declared_block g ends st first ds in (d.0, d.1))
    block_ordered ends st first ds p =
        let m : Scope g.Reported = (all_marked marked_decl st.0 ds).0 in
        let c : Course g.Reported = fold (with_decl g ends) (m, st.1, first) ds in
        holds_later c.1 _ (decls_report g c.0 ds (c.1, length st.0.own))
        (decls_ordered ends ds (m, st.1, first) (holds_weaker (λ x h. decls_marks marks ds (st.0, []) h) p))

    pub module_ordered : (modules : List (List ℕ × ℕ)) (ends : List ℕ) (s : Scope g.Reported) (m : Module)
        (ds : List Decl) → ScopeOrdered base s
        → StateOrdered base (let d = declared_module g modules ends s m ds in (d.0, d.1))
    module_ordered modules ends s m ds h =
        beside_then g _ (block_ordered ends (fold (with_import g modules) (s, Ok tt) m.imports) 0 ds
        (imports_ordered modules m.imports (s, Ok tt) h)) (λ k. const_holds k _)

    defs_ordered : (ds : List Def) (st : State (Unit {0}) g.Reported) → StateOrdered base st
        → StateOrdered base (fold (with_def g) st ds)
    defs_ordered [] st p = p
    defs_ordered (d ∷ ds) st p = defs_ordered ds (with_def g st d) (def_ordered base g st p d)

    pub definition_ordered : (m : Module) (modules : List (List ℕ × ℕ)) (s : Scope g.Reported) (ds : List Def)
        → ScopeOrdered base s → StateOrdered base (declared_in g m modules s ds)
    definition_ordered m modules s ds h =
        let i : State (Unit {0}) g.Reported = fold (with_import g modules) (s, Ok tt) m.imports in
        let d : State (Unit {0}) g.Reported = fold (with_def g) (fold marked_def i.0 ds, i.1) ds in
        holds_later d.1 _ (defs_report g d.0 ds (d.1, length i.0.own))
        (defs_ordered ds (fold marked_def i.0 ds, i.1)
        (holds_weaker (λ x k. defs_marks marks ds i.0 k) (imports_ordered modules m.imports (s, Ok tt) h)))

  -- ---- into a procedure, and back

  blocks_more : {T : Type 0} (types : Types) (bs : List (Block T)) (b : Block T) → BlocksOrdered types bs
      → NamesOrdered types b.names → BlocksOrdered types (bs ++ b ∷ [])
  blocks_more types [] b p q = (q, tt)
  blocks_more types (x ∷ bs) b p q = (p.0, blocks_more types bs b p.1 q)

  inwards_ordered : {T : Type 0} (s : Scope T) (seen : ℕ) → ScopeOrdered base s → ScopeOrdered base (inwards s seen)
  inwards_ordered s seen h = record {
    started = h.started;
    types = h.types;
    once = h.once;
    names = tt;
    outer = blocks_more s.types s.outer (record { names = s.own; seen = seen }) h.outer h.names;
    tables = h.tables;
    variables = tt;
  }

  formal_by : {T : Type 0} (types : Types) (b : Bool) (name : List ℕ) (k : Known T) (ns : List (List ℕ × Known T))
      → KnownOrdered types k → NamesOrdered types ns → NamesOrdered types (cond b ns (enter_name name k ns))
  formal_by types true name k ns p h = h
  formal_by types false name k ns p h = names_more types name k ns p h

  names_formals : {T : Type 0} (types : Types) (level : ℕ) (f : Result Formal T)
      → Holds (λ x. is_known types x.of ≡ true) f → (names : List Ident) (fs : Formals T) → NamesOrdered types fs.0
      → NamesOrdered types (fold (with_formal level f) fs names).0
  names_formals types level f p [] fs h = h
  names_formals types level f p (x ∷ xs) fs h =
      names_formals types level f p xs (with_formal level f fs x)
      (formal_by types (is_some (find_name x.name fs.0)) x.name (Declared Here (formal_meaning level (length fs.1) f))
      fs.0
      (then_holds p (λ u k. fine _ k)) h)

  type_formals : {T : Type 0} (types : Types) (ts : List TypeNo) (f : Result Formal T)
      → Holds (λ x. is_known types x.of ≡ true) f → AreKnown types ts → AreKnown types (with_formal_type ts f)
  type_formals types ts _ (fine f p) h = known_more types ts f.of h p
  type_formals types ts _ (broken e) h = h

  types_formals : {T : Type 0} (types : Types) (level : ℕ) (f : Result Formal T)
      → Holds (λ x. is_known types x.of ≡ true) f → (names : List Ident) (fs : Formals T) → AreKnown types fs.1
      → AreKnown types (fold (with_formal level f) fs names).1
  types_formals types level f p [] fs h = h
  types_formals types level f p (x ∷ xs) fs h =
      types_formals types level f p xs (with_formal level f fs x) (type_formals types fs.1 f p h)

  left_by : {T : Type 0} (types : Types) (bs : List (Block T)) → BlocksOrdered types bs
      → BlocksOrdered types (pop_block (split_last bs)).0 × NamesOrdered types (pop_block (split_last bs)).1
  left_by types [] p = (tt, tt)
  left_by types (b ∷ bs) p = last b (split_last bs) p.0 (left_by types bs p.1) where
    last : {T : Type 0} (b : Block T) (o : Option (List (Block T) × Block T)) → NamesOrdered types b.names
        → BlocksOrdered types (pop_block o).0 × NamesOrdered types (pop_block o).1
        → BlocksOrdered types (pop_block (elim o [ None ↦ Some ([], b) | Some p ↦ Some (b ∷ p.0, p.1) ])).0
        × NamesOrdered types (pop_block (elim o [ None ↦ Some ([], b) | Some p ↦ Some (b ∷ p.0, p.1) ])).1
    last b None p q = (tt, p)
    last b (Some x) p q = ((p, q.0), q.1)

  pub left_ordered : {T : Type 0} (o : Outside) (s : Scope T) → ScopeOrdered base s → AreKnown s.types o.variables
      → ScopeOrdered base (left_procedure o s)
  left_ordered o s h v = let k = left_by s.types s.outer h.outer in
      record {
        started = h.started;
        types = h.types;
        once = h.once;
        names = k.1;
        outer = k.0;
        tables = h.tables;
        variables = v;
      }

  module _ (g : Gathers) where
    sections_formals : (s : Scope g.Reported) → ScopeOrdered base s → (xs : List Section) (fs : Formals g.Reported)
        → NamesOrdered s.types fs.0 → NamesOrdered s.types (fold (with_section g s) fs xs).0
    sections_formals s p [] fs h = h
    sections_formals s p (x ∷ xs) fs h = sections_formals s p xs (with_section g s fs x)
        (names_formals s.types s.level (formal_of g s x.is_var x.of) (formal_ordered g base s p x.is_var x.of) x.names
        fs h)

    sections_types : (s : Scope g.Reported) → ScopeOrdered base s → (xs : List Section) (fs : Formals g.Reported)
        → AreKnown s.types fs.1 → AreKnown s.types (fold (with_section g s) fs xs).1
    sections_types s p [] fs h = h
    sections_types s p (x ∷ xs) fs h = sections_types s p xs (with_section g s fs x)
        (types_formals s.types s.level (formal_of g s x.is_var x.of) (formal_ordered g base s p x.is_var x.of) x.names
        fs h)

    pub entered_ordered : (s : Scope g.Reported) (seen : ℕ) (h : Heading) → ScopeOrdered base s
        → ScopeOrdered base (entered_procedure g s seen h).0
    entered_ordered s seen h p =
        let k : ScopeOrdered base (inwards s seen) = inwards_ordered s seen p in
        record {
          started = k.started;
          types = k.types;
          once = k.once;
          names = sections_formals (inwards s seen) k h.formals ([], []) tt;
          outer = k.outer;
          tables = k.tables;
          variables = sections_types (inwards s seen) k h.formals ([], []) tt;
        }
