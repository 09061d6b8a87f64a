-- Marks, imports, whole blocks, and the way into procedures and back.
use Rattle.std.proofs.Common.{◌≡◌, ℕ, zero, suc, Bool, true, false, cond, List, [], ◌∷◌, ◌++◌, length, Option, Some, None, Result, Ok, sym, subst, inl, inr}
use Rattle.std.specs.Prelude.{slice_get}
use Rattle.std.specs.List.{fold, list_all}
use Rattle.std.specs.Option.{is_some}
use Rattle.m2_tree.specs.declared.name.Ident.{Ident}
use Rattle.m2_tree.specs.declared.decl.Section.{Section}
use Rattle.m2_tree.specs.declared.decl.Heading.{Heading}
use Rattle.m2_tree.specs.declared.decl.Import.{Import}
use Rattle.m2_tree.specs.declared.decl.Module.{Module}
use Rattle.m2_tree.specs.declared.decl.Def.{Def}
use Rattle.m2_tree.specs.declared.decl.Decl.{Decl, out-Decl}
use Rattle.typed_tree.specs.declared.shape.Formal.{Formal}
use Rattle.typed_tree.specs.declared.meaning.Meaning.{Meaning}
use Rattle.typed_tree.specs.declared.meaning.Meaning.TheVariants as meaning
use Rattle.typed_tree.specs.declared.table.Table.{Table}
use Rattle.typed_tree.specs.declared.known_types.Types.{Types}
use Rattle.typed_tree.specs.Names.{find_name, enter_name}
use Rattle.check_scope.specs.Elaborated.{Gathers}
use Rattle.check_scope.specs.Scopes.{State}
use Rattle.check_scope.specs.declared.known.Known.{Known}
use Rattle.check_scope.specs.declared.known.Known.TheVariants.{Later, Ahead, Declared}
use Rattle.check_scope.specs.declared.known.Origin.TheVariants.{Here}
use Rattle.check_scope.specs.declared.scope.Block.{Block}
use Rattle.check_scope.specs.declared.scope.Scope.{Scope}
use Rattle.check_type_expr.specs.Headings.{formal_of}
use Rattle.check_definition.specs.Marking.{marked_def}
use Rattle.check_definition.specs.Importing.{exports_of, with_import}
use Rattle.check_definition.specs.Declare.{with_def}
use Rattle.check_definition.specs.Compiled.{declared_in}
use Rattle.check_block.specs.Naming.{marked_decl, all_marked}
use Rattle.check_block.specs.Declarations.{Course, with_decl, declared_block, declared_module}
use Rattle.check_scope.specs.declared.inner.Outside.{Outside}
use Rattle.check_scope.specs.Inwards.{inwards, split_last, pop_block, left_procedure}
use Rattle.check_block.specs.Inner.{formal_kind, formal_meaning, Formals, with_formal, with_section, entered_procedure}
use Rattle.law_folds.proofs.Orders.{fact}
use Rattle.law_folds.proofs.ImportSteps.{Among, KeepsExports, imports_bring}
use Rattle.law_folds.proofs.AgainSteps.{defs_report, decls_report}
use Rattle.law_folds.proofs.MarkSteps.{KeepsMarks, defs_marks, decls_marks}
use Rattle.law_well_formed.specs.Formed.{fine}
use Rattle.law_well_formed.proofs.Basics.{holds_weaker, holds_later}
use Rattle.law_well_formed.specs.FormedRanges.{fits_def, fits_decl, MeaningRanged, KnownRanged, NamesRanged, BlocksRanged, ExportsRanged, TablesRanged, ScopeRanged, StateRanged}
use Rattle.law_well_formed.proofs.RangesTypes.{both_left, both_right}
use Rattle.law_well_formed.proofs.RangesMade.{beside_then, const_holds, names_more, known_ranged}
use Rattle.law_well_formed.proofs.Constants.{constants_ranged}
use Rattle.law_well_formed.proofs.RangesDeclarations.{meant_holds, def_ranged, decl_ranged}

-- ---- marks

marks : {T : Type 0} → KeepsMarks {T = T} (λ s t. ScopeRanged s → ScopeRanged t)
marks = record {
  order = fact ScopeRanged;
  later = λ s name e h. known_ranged s name Later h tt;
  ahead = λ s name e h. known_ranged s name Ahead h tt;
}

-- ---- imports

exports_ranged : (types : Types) (ts : List Table) (k : ℕ) → TablesRanged types ts
    → ExportsRanged types (exports_of (slice_get ts k))
exports_ranged types [] k p = tt
exports_ranged types (t ∷ ts) zero p = p.0
exports_ranged types (t ∷ ts) (suc k) p = exports_ranged types ts k p.1

exported_ranged : (types : Types) (es : List (List ℕ × Meaning)) (x : List ℕ × Meaning) → ExportsRanged types es
    → Among x es → MeaningRanged types x.1
exported_ranged types [] x p a = absurd a
exported_ranged types (e ∷ es) x p (inl q) = subst (λ (z : List ℕ × Meaning). MeaningRanged types z.1) (sym q) p.0
exported_ranged types (e ∷ es) x p (inr a) = exported_ranged types es x p.1 a

module _ (g : Gathers) where
  imports : KeepsExports g (λ s t. ScopeRanged s → ScopeRanged t)
  imports = record {
    order = fact ScopeRanged;
    modules = λ s name n e h. known_ranged s name _ h (fine (meaning.Module n) tt);
    exports =
        λ s x n e a h. known_ranged s x.0 _ h
        (fine x.1 (exported_ranged s.types _ x (exports_ranged s.types s.tables n h.tables) a));
  }

  imports_ranged : (modules : List (List ℕ × ℕ)) (is : List Import) (st : State (Unit {0}) g.Reported)
      → ScopeRanged st.0 → StateRanged (fold (with_import g modules) st is)
  imports_ranged modules is st h = const_holds (imports_bring g imports modules is st h) _

  -- ---- blocks

  decls_ranged : (ends : List ℕ) (ds : List Decl) (c : Course g.Reported) → list_all fits_decl ds ≡ true
      → StateRanged (c.0, c.1) → StateRanged (let n = fold (with_decl g ends) c ds in (n.0, n.1))
  decls_ranged ends [] c e p = p
  decls_ranged ends (d ∷ ds) c e p = decls_ranged ends ds (with_decl g ends c d)
      (both_right (fits_decl d) (list_all fits_decl ds) e)
      (decl_ranged g (constants_ranged g) ends c p (out-Decl d) (both_left (fits_decl d) (list_all fits_decl ds) e))

  pub block_ranged : (ends : List ℕ) (st : State (Unit {0}) g.Reported) (first : ℕ) (ds : List Decl)
      → list_all fits_decl ds ≡ true → StateRanged st
      → StateRanged (let d = declared_block g ends st first ds in (d.0, d.1))
  block_ranged ends st first ds e p =
      let m : Scope g.Reported = (all_marked marked_decl st.0 ds).0 in
      let c : Course g.Reported = fold (with_decl g ends) (m, st.1, first) ds in
      holds_later c.1 _ (decls_report g c.0 ds (c.1, length st.0.own))
      (decls_ranged ends ds (m, st.1, first) e (holds_weaker (λ x h. decls_marks marks ds (st.0, []) h) p))

  pub module_ranged : (modules : List (List ℕ × ℕ)) (ends : List ℕ) (s : Scope g.Reported) (m : Module) (ds : List Decl)
      → list_all fits_decl ds ≡ true → ScopeRanged s
      → StateRanged (let d = declared_module g modules ends s m ds in (d.0, d.1))
  module_ranged modules ends s m ds e h =
      beside_then g _ (block_ranged ends (fold (with_import g modules) (s, Ok tt) m.imports) 0 ds e
      (imports_ranged modules m.imports (s, Ok tt) h)) (λ k. const_holds k _)

  defs_ranged : (ds : List Def) (st : State (Unit {0}) g.Reported) → list_all fits_def ds ≡ true → StateRanged st
      → StateRanged (fold (with_def g) st ds)
  defs_ranged [] st e p = p
  defs_ranged (d ∷ ds) st e p = defs_ranged ds (with_def g st d) (both_right (fits_def d) (list_all fits_def ds) e)
      (def_ranged g (constants_ranged g) st p d (both_left (fits_def d) (list_all fits_def ds) e))

  pub definition_ranged : (m : Module) (modules : List (List ℕ × ℕ)) (s : Scope g.Reported) (ds : List Def)
      → list_all fits_def ds ≡ true → ScopeRanged s → StateRanged (declared_in g m modules s ds)
  definition_ranged m modules s ds e h =
      let i : State (Unit {0}) g.Reported = fold (with_import g modules) (s, Ok tt) m.imports in
      let d : State (Unit {0}) g.Reported = fold (with_def g) (fold marked_def i.0 ds, i.1) ds in
      holds_later d.1 _ (defs_report g d.0 ds (d.1, length i.0.own))
      (defs_ranged ds (fold marked_def i.0 ds, i.1) e
      (holds_weaker (λ x k. defs_marks marks ds i.0 k) (imports_ranged modules m.imports (s, Ok tt) h)))

-- ---- into a procedure, and back

blocks_more : {T : Type 0} (types : Types) (bs : List (Block T)) (b : Block T) → BlocksRanged types bs
    → NamesRanged types b.names → BlocksRanged types (bs ++ b ∷ [])
blocks_more types [] b p q = (q, tt)
blocks_more types (x ∷ bs) b p q = (p.0, blocks_more types bs b p.1 q)

inwards_ranged : {T : Type 0} (s : Scope T) (seen : ℕ) → ScopeRanged s → ScopeRanged (inwards s seen)
inwards_ranged s seen h = record {
  types = h.types;
  own = h.own;
  others = h.others;
  names = tt;
  outer = blocks_more s.types s.outer (record { names = s.own; seen = seen }) h.outer h.names;
  tables = h.tables;
}

formal_by : {T : Type 0} (types : Types) (b : Bool) (name : List ℕ) (k : Known T) (ns : List (List ℕ × Known T))
    → KnownRanged types k → NamesRanged types ns → NamesRanged types (cond b ns (enter_name name k ns))
formal_by types true name k ns p h = h
formal_by types false name k ns p h = names_more types name k ns p h

names_formals : {T : Type 0} (types : Types) (level : ℕ) (f : Result Formal T) (names : List Ident) (fs : Formals T)
    → NamesRanged types fs.0 → NamesRanged types (fold (with_formal level f) fs names).0
names_formals types level f [] fs h = h
names_formals types level f (x ∷ xs) fs h =
    names_formals types level f xs (with_formal level f fs x)
    (formal_by types (is_some (find_name x.name fs.0)) x.name (Declared Here (formal_meaning level (length fs.1) f))
    fs.0
    (meant_holds (λ u. meaning.Local (record { level = level; number = length fs.1; kind = formal_kind u; of = u.of }))
    (λ u. tt) f) h)

left_by : {T : Type 0} (types : Types) (bs : List (Block T)) → BlocksRanged types bs
    → BlocksRanged types (pop_block (split_last bs)).0 × NamesRanged types (pop_block (split_last bs)).1
left_by types [] p = (tt, tt)
left_by types (b ∷ bs) p = last b (split_last bs) p.0 (left_by types bs p.1) where
  last : {T : Type 0} (b : Block T) (o : Option (List (Block T) × Block T)) → NamesRanged types b.names
      → BlocksRanged types (pop_block o).0 × NamesRanged types (pop_block o).1
      → BlocksRanged types (pop_block (elim o [ None ↦ Some ([], b) | Some p ↦ Some (b ∷ p.0, p.1) ])).0
      × NamesRanged types (pop_block (elim o [ None ↦ Some ([], b) | Some p ↦ Some (b ∷ p.0, p.1) ])).1
  last b None p q = (tt, p)
  last b (Some x) p q = ((p, q.0), q.1)

pub left_ranged : {T : Type 0} (o : Outside) (s : Scope T) → ScopeRanged s → ScopeRanged (left_procedure o s)
left_ranged o s h = let k = left_by s.types s.outer h.outer in
    record { types = h.types; own = h.own; others = h.others; names = k.1; outer = k.0; tables = h.tables }

module _ (g : Gathers) where
  sections_formals : (s : Scope g.Reported) (types : Types) (xs : List Section) (fs : Formals g.Reported)
      → NamesRanged types fs.0 → NamesRanged types (fold (with_section g s) fs xs).0
  sections_formals s types [] fs h = h
  sections_formals s types (x ∷ xs) fs h =
      sections_formals s types xs (with_section g s fs x)
      (names_formals types s.level (formal_of g s x.is_var x.of) x.names fs h)

  pub entered_ranged : (s : Scope g.Reported) (seen : ℕ) (h : Heading) → ScopeRanged s
      → ScopeRanged (entered_procedure g s seen h).0
  entered_ranged s seen h p =
      let k : ScopeRanged (inwards s seen) = inwards_ranged s seen p in
      record {
        types = k.types;
        own = k.own;
        others = k.others;
        names =
            sections_formals (inwards s seen) s.types h.formals ([], []) tt;
        outer = k.outer;
        tables = k.tables;
      }
