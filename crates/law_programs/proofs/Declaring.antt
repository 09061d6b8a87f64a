-- Type expressions, declarations, marks, imports and blocks carry on.
use Rattle.std.proofs.Common.{◌≡◌, ℕ, zero, suc, ◌==◌, true, false, List, [], ◌∷◌, length, drop, Option, Some, None, Result, Ok, Err, refl, sym, ap, subst, ◌∙◌, pos, ◌≤◌, length-append, arith, ◌++◌, inl, inr}
use Rattle.std.specs.Prelude.{map, nat_lt, slice_get}
use Rattle.std.proofs.lemmas.List.{length-map, length-drop}
use Rattle.std.specs.List.{fold}
use Rattle.std.specs.Option.{is_some}
use Rattle.m2_rule.specs.declared.rule.Rule.TheVariants as rule
use Rattle.m2_tree.specs.declared.pos.Pos.{Pos}
use Rattle.m2_tree.specs.declared.name.Ident.{Ident}
use Rattle.m2_tree.specs.declared.decl.Heading.{Heading}
use Rattle.m2_tree.specs.declared.decl.Import.{Import}
use Rattle.m2_tree.specs.declared.decl.Module.{Module}
use Rattle.m2_tree.specs.declared.decl.Def.{Def}
use Rattle.m2_tree.specs.declared.decl.Decl.{Decl, out-Decl}
use Rattle.m2_tree.specs.declared.decl.Simple.{Simple}
use Rattle.m2_tree.specs.declared.decl.Simple.TheVariants as simple
use Rattle.m2_tree.specs.declared.decl.TypeExpr.{TypeExpr, TypeExpr-F}
use Rattle.m2_tree.specs.declared.decl.TypeExpr.TheOpen as layer
use Rattle.m2_tree.specs.declared.decl.Field.{Field}
use Rattle.typed_tree.specs.declared.types.TypeNo.{TypeNo}
use Rattle.typed_tree.specs.declared.shape.Formal.{Formal}
use Rattle.typed_tree.specs.declared.shape.Made.{Made}
use Rattle.typed_tree.specs.declared.shape.Scalar.{Scalar as Range}
use Rattle.typed_tree.specs.declared.shape.Shape.TheVariants as shape
use Rattle.typed_tree.specs.declared.meaning.LocalKind.TheVariants as kind
use Rattle.typed_tree.specs.declared.meaning.Meaning.{Meaning}
use Rattle.typed_tree.specs.declared.meaning.Meaning.TheVariants as meaning
use Rattle.typed_tree.specs.declared.meaning.Value.{Value}
use Rattle.typed_tree.specs.declared.table.Table.{Table}
use Rattle.typed_tree.specs.declared.known_types.Types.{Types}
use Rattle.typed_tree.specs.Known.{scalar_at, cells_at}
use Rattle.check_scope.specs.Elaborated.{Gathers, both}
use Rattle.check_scope.specs.Scopes.{State, with_known}
use Rattle.check_scope.specs.declared.known.Known.TheVariants.{Later, Ahead, Headed, Declared, Begun}
use Rattle.check_scope.specs.declared.known.Origin.TheVariants.{Here}
use Rattle.check_scope.specs.declared.scope.Scope.{Scope}
use Rattle.check_scope.specs.Scopes.{heading_means}
use Rattle.check_const.specs.Parts.{constant}
use Rattle.check_expr.specs.Meanings.{part}
use Rattle.check_type_expr.specs.declared.field.Fields.{Fields}
use Rattle.check_type_expr.specs.Cells.{array_cells, count_at, is_index_scalar, is_index}
use Rattle.check_type_expr.specs.Fields.{no_fields}
use Rattle.check_type_expr.specs.Headings.{procedure_made, with_section, result_of, heading_of}
use Rattle.check_type_expr.specs.Made.{next_type, with_shape, enumeration_constant, enumeration_scalar, too_many, enumerate_name, simple_type, simple_place, array_of, index_type, record_of, Makes, MakesFields, then_fields, type_layer, field_layer, type_of, field_list}
use Rattle.check_definition.specs.Marking.{marked_def}
use Rattle.check_definition.specs.Declare.{variable_meaning, local_meaning, with_variable_type, procedure_meaning, with_procedure_type, with_def}
use Rattle.check_definition.specs.Importing.{exports_of, with_import}
use Rattle.check_definition.specs.Compiled.{declared_in}
use Rattle.check_block.specs.Headings.{nested_meaning}
use Rattle.check_block.specs.Declarations.{declared_block, declared_module, Course, with_decl}
use Rattle.law_folds.proofs.Orders.{IsOrder, steps}
use Rattle.law_folds.proofs.TypeFolds.{Typed, Fielded, bare, all_trees, types_opened, types_at, fields_at}
use Rattle.law_folds.proofs.MarkSteps.{KeepsMarks, defs_marks}
use Rattle.law_folds.proofs.TypeSteps.{unless_keeps, KeepsTypes}
use Rattle.law_folds.proofs.NameSteps.{KeepsNames, VariablesEnd}
use Rattle.law_folds.proofs.ImportSteps.{Among, KeepsExports, imports_bring}
use Rattle.law_folds.proofs.DefinitionSteps.{KeepsDefinitions, def_keeps, defs_keep}
use Rattle.law_folds.proofs.BlockSteps.{KeepsBlocks, layer_keeps, block_keeps}
use Rattle.law_well_formed.specs.Formed.{Holds, fine, broken}
use Rattle.law_well_formed.proofs.Basics.{then_holds, holds_weaker, where_holds, both_holds, any_holds, heading_means_holds}
use Rattle.law_well_formed.proofs.RangesDeclarations.{meant_holds}
use Rattle.law_well_formed.proofs.Names.{get_last}
use Rattle.law_well_formed.proofs.ScopesDeclarations.{same_home}
use Rattle.law_programs.specs.Carried.{ShapeIndexed, MeaningPlaced, IsElsewhere, ExportsElsewhere, TablesElsewhere, MeaningWord, ExportsWords, TablesWords, slots_from, slots_in, StandsIn, MeaningSlot, Carries}
use Rattle.law_programs.specs.Scopes.{formal_slot, variable_slot}
use Rattle.law_programs.proofs.Carrying.{Slots, slots_behind, IsScalar, scalar_stays, carries_refl, carries_then, known_carries, shape_carries, made_carries, variable_type_carries, procedure_type_carries, then_known}
use Rattle.law_programs.proofs.Denoting.{constants_words}
use Rattle.law_programs.proofs.Operators.{where_not}

order : {T : Type 0} → IsOrder {T = T} Carries
order = record { same = carries_refl; next = λ a b c p q. carries_then p q }

-- ---- marks

marks : {T : Type 0} → KeepsMarks {T = T} Carries
marks = record {
  order = order;
  later = λ s name e. known_carries s name Later tt (λ q. tt) (λ fs l. tt);
  ahead = λ s name e. known_carries s name Ahead tt (λ q. tt) (λ fs l. tt);
}

-- ---- types that are made

module _ (g : Gathers) where
  listed_carries : (t : TypeNo) (l : Scope g.Reported × ℕ × Result (Unit {0}) g.Reported) (x : Ident)
      → Carries l.0 (enumerate_name g t l x).0
  listed_carries t l x =
      unless_keeps g order l.0 x (Declared Here (Ok (enumeration_constant t (pos l.1))))
      (λ e. known_carries l.0 x.name _ (fine _ tt) (λ q. fine _ tt) (λ fs k. fine _ tt))

  simple_carries : (s : Scope g.Reported) (t : Simple) → Carries s (simple_type g s t).0
  simple_carries s (simple.Named q) = carries_refl s
  simple_carries s (simple.Enumeration at names) =
      let x : Made = enumeration_scalar (next_type s) names in
      carries_then (shape_carries s x tt)
      (steps order (λ (l : Scope g.Reported × ℕ × Result (Unit {0}) g.Reported). l.0) (enumerate_name g (next_type s))
      (listed_carries (next_type s)) names (with_shape s x, 0, too_many g names))
  simple_carries s (simple.Subrange o at low high) = made_carries s (then_holds (any_holds _) (λ r k. fine _ tt))

  -- an index is of a scalar type
  index_scalar : (types : Types) (t : TypeNo) (o : Option Range) → scalar_at types t ≡ o → is_index_scalar t o ≡ true
      → IsScalar types t
  index_scalar types t None e k = absurd cc
  index_scalar types t (Some r) e k = ap (λ (o : Option Range). is_some o) e

  index_is : (s : Scope g.Reported) (t : Simple) → Holds (IsScalar (index_type g s t).0.types) (index_type g s t).1
  index_is s t =
      let i : State TypeNo g.Reported = simple_type g s t in
      then_holds (any_holds i.1) (λ u k. where_not g (is_index i.0.types u) (simple_place t) rule.NoIndex
      (λ e. fine u (index_scalar i.0.types u (scalar_at i.0.types u) refl e)))

  array_indexed : (a b : Scope g.Reported) (at : Pos) (i e : Result TypeNo g.Reported) → Carries a b
      → Holds (IsScalar a.types) i → Holds (λ (m : Made). ShapeIndexed b.types m.shape) (array_of g b.types at i e)
  array_indexed a b at i e c p =
      then_holds (both_holds g (holds_weaker (λ u k. scalar_stays a.types b.types c.types u k) p) (any_holds e))
      (λ (u : TypeNo × TypeNo) k.
      then_holds (any_holds (array_cells g at (count_at b.types u.0) (cells_at b.types u.1))) (λ n j. fine _ k.0))

  record_plain : (types : Types) (at : Pos) (fs : Fields) (elaborated : Result (Unit {0}) g.Reported)
      → Holds (λ (m : Made). ShapeIndexed types m.shape) (record_of g at fs elaborated)
  record_plain types at fs elaborated = then_holds (any_holds elaborated)
      (λ u k. where_holds g (nat_lt 131072 fs.cells) at rule.LargeType
      (fine (record { shape = shape.Record fs.names; cells = fs.cells }) tt))

  procedure_plain : (types : Types) (formals : Result (List Formal) g.Reported) (of : Result (Option TypeNo) g.Reported)
      → Holds (λ (m : Made). ShapeIndexed types m.shape) (procedure_made g formals of)
  procedure_plain types formals of = then_holds (any_holds (both g formals of)) (λ p k. fine _ tt)

  heading_plain : (s : Scope g.Reported) (h : Heading)
      → Holds (λ (m : Made). ShapeIndexed s.types m.shape) (heading_of g s h)
  heading_plain s h = procedure_plain s.types (fold (with_section g s) (Ok []) h.formals) (result_of g s h.result)

  abbrev CarriesMakes : Makes g → Type 0
  CarriesMakes f = (s : Scope g.Reported) → Carries s (f s).0

  abbrev CarriesFields : MakesFields g → Type 0
  CarriesFields f = (st : Scope g.Reported × Fields × Result (Unit {0}) g.Reported) → Carries st.0 (f st).0

  abbrev ST : Type 0
  ST = Typed (type_of g) (field_list g) (λ t f. CarriesMakes f) (λ d f. CarriesFields f)

  abbrev SF : Type 0
  SF = Fielded (type_of g) (field_list g) (λ t f. CarriesMakes f) (λ d f. CarriesFields f)

  abbrev stripped : TypeExpr-F ST SF → TypeExpr-F TypeExpr Field
  stripped y = bare (type_of g) (field_list g) (λ t f. CarriesMakes f) (λ d f. CarriesFields f) y

  fields_all : (fs : List SF) (st : Scope g.Reported × Fields × Result (Unit {0}) g.Reported)
      → Carries st.0 (fold (then_fields g) st (map (field_list g) (map (λ (f : SF). f.0) fs))).0
  fields_all [] st = carries_refl st.0
  fields_all (f ∷ fs) st = carries_then (f.1 st) (fields_all fs (field_list g f.0 st))

  type_carries : (y : TypeExpr-F ST SF) → CarriesMakes (type_layer g (types_opened g (stripped y)))
  type_carries (layer.Simple t) = λ s. simple_carries s t
  type_carries (layer.Array at index t) = λ s.
      let of : Carries (index_type g s index).0 (type_of g t.0 (index_type g s index).0).0 =
      t.1 (index_type g s index).0 in
      carries_then (simple_carries s index) (carries_then of
      (made_carries (type_of g t.0 (index_type g s index).0).0
      (array_indexed (index_type g s index).0 (type_of g t.0 (index_type g s index).0).0 at (index_type g s index).1
      (type_of g t.0 (index_type g s index).0).1 of (index_is s index))))
  type_carries (layer.Record at fields) = λ s.
      let st : Scope g.Reported × Fields × Result (Unit {0}) g.Reported =
      fold (then_fields g) (s, no_fields, Ok tt) (map (field_list g) (map (λ (f : SF). f.0) fields)) in
      carries_then (fields_all fields (s, no_fields, Ok tt)) (made_carries st.0 (record_plain st.0.types at st.1 st.2))
  type_carries (layer.Procedure at formals t) = λ s. made_carries s (procedure_plain s.types _ _)

  types : KeepsTypes g Carries
  types = record {
    order = order;
    types =
        all_trees (type_of g) (field_list g) (λ t f. CarriesMakes f) (λ d f. CarriesFields f) (type_layer g)
        (field_layer g) (types_at g) (fields_at g)
        type_carries (λ y st. y.of.1 st.0);
    headings = λ s h. made_carries s (heading_plain s h);
  }

  -- ---- constants, types and variables

  abbrev Goes : Scope g.Reported → Scope g.Reported → Type 0
  Goes s s' = Carries s s'

  names : KeepsNames g Goes
  names = record {
    types = types;
    begun = λ s name e. known_carries s name Begun tt (λ q. tt) (λ fs l. tt);
    constant_ends = λ s c e.
        let v : Result Value g.Reported = constant g s (part g c.value) in
        known_carries s c.name.name _ (meant_holds (λ u. meaning.Constant u) (λ u. tt) v)
        (λ q. then_holds (constants_words g s q c.value) (λ u w. fine (meaning.Constant u) w))
        (λ fs l. meant_holds (λ u. meaning.Constant u) (λ u. tt) v);
    type_ends = λ s name t n e.
        known_carries s name _ (meant_holds (λ u. meaning.Type u n) (λ u. tt) t)
        (λ q. meant_holds (λ u. meaning.Type u n) (λ u. tt) t)
        (λ fs l. meant_holds (λ u. meaning.Type u n) (λ u. tt) t);
  }

  variable_placed : (s : Scope g.Reported) (t : Result TypeNo g.Reported)
      → Holds (MeaningPlaced (with_variable_type s t).types.home (with_variable_type s t).variables)
      (variable_meaning s.types.home (length s.variables) t)
  variable_placed s (Ok t) = fine (meaning.Variable
      (record { home = s.types.home; number = length s.variables; of = t })) (λ e. get_last s.variables t)
  variable_placed s (Err e) = broken e

  variable_ends : VariablesEnd g Goes
  variable_ends s name t e =
      let m : TypeNo → Meaning =
      λ u. meaning.Variable (record { home = s.types.home; number = length s.variables; of = u }) in
      carries_then (variable_type_carries s t)
      (known_carries (with_variable_type s t) name _ (variable_placed s t) (λ q. meant_holds m (λ u. tt) t)
      (λ fs l. meant_holds m (λ u. tt) t))

  -- the scope of a procedure
  abbrev Nested : Scope g.Reported → Type 0
  Nested s = s.level ≡ 0 → ⊥

  -- a variable stands behind all others
  slot_last : (fs : List Formal) (vs : List TypeNo) (t : TypeNo) → length fs ≤ length vs
      → slice_get (slots_from fs (vs ++ t ∷ [])) (length vs) ≡ Some (variable_slot t)
  slot_last fs vs t l =
      let a = length-append (map formal_slot fs) (map variable_slot (drop (length fs) vs)) in
      let b = length-map fs formal_slot in
      let c = length-map (drop (length fs) vs) variable_slot in
      let d = length-drop (length fs) vs in
      let at : length vs ≡ length (slots_from fs vs) = omega (arith, a, b, c, d, l) in
      ap (λ (n : ℕ). slice_get (slots_from fs (vs ++ t ∷ [])) n) at
      ∙ ap (λ (us : Slots). slice_get us (length (slots_from fs vs))) (slots_behind fs vs t l)
      ∙ get_last (slots_from fs vs) (variable_slot t)

  local_slot : (s : Scope g.Reported) (t : Result TypeNo g.Reported) → Nested s → (o : Option (List Formal))
      → StandsIn o s
      → Holds (MeaningSlot (slots_in o (with_variable_type s t).variables) (with_variable_type s t).level)
      (local_meaning s.level (length s.variables) t)
  local_slot s (Err e) deep o l = broken e
  local_slot s (Ok t) deep None l = absurd (deep l)
  local_slot s (Ok t) deep (Some fs) l = fine
      (meaning.Local (record { level = s.level; number = length s.variables; kind = kind.Variable; of = t }))
      (refl, slot_last fs s.variables t l)

  local_placed : (s : Scope g.Reported) (t : Result TypeNo g.Reported)
      → Holds (MeaningPlaced (with_variable_type s t).types.home (with_variable_type s t).variables)
      (local_meaning s.level (length s.variables) t)
  local_placed s t = meant_holds (λ u. meaning.Local
      (record { level = s.level; number = length s.variables; kind = kind.Variable; of = u })) (λ u. tt) t

  local_word : (s : Scope g.Reported) (t : Result TypeNo g.Reported)
      → Holds MeaningWord (local_meaning s.level (length s.variables) t)
  local_word s t = meant_holds (λ u. meaning.Local
      (record { level = s.level; number = length s.variables; kind = kind.Variable; of = u })) (λ u. tt) t

  nested_by : (s : Scope g.Reported) → (s.level == 0) ≡ false → Nested s
  nested_by s e z = let k : true ≡ false = sym (same_home s.level 0 z) ∙ e in cc

  local_ends : (s : Scope g.Reported) (name : List ℕ) (t : Result TypeNo g.Reported) → (s.level == 0) ≡ false
      → Goes s (with_known name (Declared Here (local_meaning s.level (length s.variables) t)) (with_variable_type s t))
  local_ends s name t l =
      then_known s (with_variable_type s t) name _ (variable_type_carries s t) (local_placed s t) (λ q. local_word s t)
      (local_slot s t (nested_by s l))

  -- ---- procedures

  procedure_heads : (s : Scope g.Reported) (name : List ℕ) (t : Result TypeNo g.Reported)
      → Goes s (with_known name (Headed (heading_means false (procedure_meaning s.types.home (length s.procedures) t)))
      (with_procedure_type s t))
  procedure_heads s name t =
      let m : TypeNo → Meaning =
      λ u. meaning.Procedure (record { home = s.types.home; number = length s.procedures; heading = u }) in
      carries_then (procedure_type_carries s t)
      (known_carries (with_procedure_type s t) name _ (heading_means_holds false (meant_holds m (λ u. tt) t))
      (λ q. heading_means_holds false (meant_holds m (λ u. tt) t))
      (λ fs l. heading_means_holds false (meant_holds m (λ u. tt) t)))

  nested_heads : (s : Scope g.Reported) (name : List ℕ) (n : ℕ) (t : Result TypeNo g.Reported)
      → Goes s (with_known name (Headed (heading_means true (nested_meaning s.level n t))) s)
  nested_heads s name n t =
      let m : TypeNo → Meaning = λ u. meaning.LocalProcedure (record { level = s.level; number = n; heading = u }) in
      known_carries s name _ (heading_means_holds true (meant_holds m (λ u. tt) t))
      (λ q. heading_means_holds true (meant_holds m (λ u. tt) t))
      (λ fs l. heading_means_holds true (meant_holds m (λ u. tt) t))

  -- ---- all declarations

  blocks : KeepsBlocks g Goes
  blocks = record {
    marks = marks;
    names = names;
    varied = variable_type_carries;
    variable_ends = λ s name t l e. variable_ends s name t e;
    local_ends = λ s name t l e. local_ends s name t l;
    procedure = λ s name t l e. procedure_heads s name t;
    nested = λ s name n t l e. nested_heads s name n t;
    awaited =
        λ s name p e. known_carries s name (Headed (Ok (meaning.Procedure p))) (fine (meaning.Procedure p) tt)
        (λ q. fine (meaning.Procedure p) tt) (λ fs l. fine (meaning.Procedure p) tt);
  }

  definitions : KeepsDefinitions g Goes
  definitions = record {
    names = names;
    varied = variable_type_carries;
    variable_ends = variable_ends;
    headed = procedure_type_carries;
    procedure = λ s name t e. procedure_heads s name t;
  }

  -- ---- imports

  elsewhere_placed : (home : ℕ) (vs : List TypeNo) (m : Meaning) → IsElsewhere home m → MeaningPlaced home vs m
  elsewhere_placed home vs (meaning.Variable v) p = λ e. absurd (p e)
  elsewhere_placed home vs (meaning.Constant v) p = tt
  elsewhere_placed home vs (meaning.Type t n) p = tt
  elsewhere_placed home vs (meaning.Local v) p = tt
  elsewhere_placed home vs (meaning.Field f) p = tt
  elsewhere_placed home vs (meaning.Procedure q) p = tt
  elsewhere_placed home vs (meaning.LocalProcedure q) p = tt
  elsewhere_placed home vs meaning.Ahead p = tt
  elsewhere_placed home vs (meaning.Standard f) p = tt
  elsewhere_placed home vs (meaning.Module k) p = tt

  elsewhere_slot : (home : ℕ) (slots : Slots) (level : ℕ) (m : Meaning) → IsElsewhere home m → MeaningSlot slots level m
  elsewhere_slot home slots level (meaning.Local v) p = absurd p
  elsewhere_slot home slots level (meaning.Constant v) p = tt
  elsewhere_slot home slots level (meaning.Type t n) p = tt
  elsewhere_slot home slots level (meaning.Variable v) p = tt
  elsewhere_slot home slots level (meaning.Field f) p = tt
  elsewhere_slot home slots level (meaning.Procedure q) p = tt
  elsewhere_slot home slots level (meaning.LocalProcedure q) p = tt
  elsewhere_slot home slots level meaning.Ahead p = tt
  elsewhere_slot home slots level (meaning.Standard f) p = tt
  elsewhere_slot home slots level (meaning.Module k) p = tt

  exports_elsewhere : (home : ℕ) (ts : List Table) (k : ℕ) → TablesElsewhere home ts
      → ExportsElsewhere home (exports_of (slice_get ts k))
  exports_elsewhere home [] k p = tt
  exports_elsewhere home (t ∷ ts) zero p = p.0
  exports_elsewhere home (t ∷ ts) (suc k) p = exports_elsewhere home ts k p.1

  exports_words : (ts : List Table) (k : ℕ) → TablesWords ts → ExportsWords (exports_of (slice_get ts k))
  exports_words [] k p = tt
  exports_words (t ∷ ts) zero p = p.0
  exports_words (t ∷ ts) (suc k) p = exports_words ts k p.1

  exported_elsewhere : (home : ℕ) (es : List (List ℕ × Meaning)) (x : List ℕ × Meaning) → ExportsElsewhere home es
      → Among x es → IsElsewhere home x.1
  exported_elsewhere home [] x p a = absurd a
  exported_elsewhere home (e ∷ es) x p (inl q) = subst (λ (z : List ℕ × Meaning). IsElsewhere home z.1) (sym q) p.0
  exported_elsewhere home (e ∷ es) x p (inr a) = exported_elsewhere home es x p.1 a

  exported_word : (es : List (List ℕ × Meaning)) (x : List ℕ × Meaning) → ExportsWords es → Among x es → MeaningWord x.1
  exported_word [] x p a = absurd a
  exported_word (e ∷ es) x p (inl q) = subst (λ (z : List ℕ × Meaning). MeaningWord z.1) (sym q) p.0
  exported_word (e ∷ es) x p (inr a) = exported_word es x p.1 a

  -- where no table exports a variable of the module itself
  abbrev FromElsewhere : Scope g.Reported → Type 0
  FromElsewhere s = TablesElsewhere s.types.home s.tables

  elsewhere_on : (a b : Scope g.Reported) → Carries a b → FromElsewhere a → FromElsewhere b
  elsewhere_on a b c p =
      subst (λ (n : ℕ). TablesElsewhere n b.tables) (sym c.home)
      (subst (λ (ts : List Table). TablesElsewhere a.types.home ts) (sym c.tables) p)

  imports : KeepsExports g (λ s t. FromElsewhere s → Carries s t)
  imports = record {
    order = record {
      same = λ s p. carries_refl s;
      next = λ a b c p q e. carries_then (p e) (q (elsewhere_on a b (p e) e));
    };
    modules =
        λ s name n e p. known_carries s name _ (fine (meaning.Module n) tt) (λ q. fine (meaning.Module n) tt)
        (λ fs l. fine (meaning.Module n) tt);
    exports = λ s x n e a p.
        let away : IsElsewhere s.types.home x.1 =
        exported_elsewhere s.types.home _ x (exports_elsewhere s.types.home s.tables n p) a in
        known_carries s x.0 _ (fine x.1 (elsewhere_placed s.types.home s.variables x.1 away))
        (λ q. fine x.1 (exported_word _ x (exports_words s.tables n q.tables) a))
        (λ fs l. fine x.1 (elsewhere_slot s.types.home (slots_in fs s.variables) s.level x.1 away));
  }

  imports_carry : (modules : List (List ℕ × ℕ)) (is : List Import) (st : State (Unit {0}) g.Reported)
      → FromElsewhere st.0 → Goes st.0 (fold (with_import g modules) st is).0
  imports_carry = imports_bring g imports

  -- ---- whole blocks, definitions and modules

  pub def_carries : (st : State (Unit {0}) g.Reported) (d : Def) → Goes st.0 (with_def g st d).0
  def_carries = def_keeps g definitions

  pub decl_carries : (ends : List ℕ) (c : Course g.Reported) (d : Decl) → Goes c.0 (with_decl g ends c d).0
  decl_carries ends c d = layer_keeps g blocks ends c (out-Decl d)

  pub block_carries : (ends : List ℕ) (st : State (Unit {0}) g.Reported) (first : ℕ) (ds : List Decl)
      → Goes st.0 (declared_block g ends st first ds).0
  block_carries = block_keeps g blocks

  pub definition_carries : (m : Module) (modules : List (List ℕ × ℕ)) (s : Scope g.Reported) (ds : List Def)
      → TablesElsewhere s.types.home s.tables → Goes s (declared_in g m modules s ds).0
  definition_carries m modules s ds p =
      let i : State (Unit {0}) g.Reported = fold (with_import g modules) (s, Ok tt) m.imports in
      carries_then (imports_carry modules m.imports (s, Ok tt) p)
      (carries_then (defs_marks marks ds i.0) (defs_keep g definitions ds (fold marked_def i.0 ds, i.1)))

  pub module_carries_on : (modules : List (List ℕ × ℕ)) (ends : List ℕ) (s : Scope g.Reported) (m : Module)
      (ds : List Decl) → TablesElsewhere s.types.home s.tables → Goes s (declared_module g modules ends s m ds).0
  module_carries_on modules ends s m ds p =
      carries_then (imports_carry modules m.imports (s, Ok tt) p)
      (block_carries ends (fold (with_import g modules) (s, Ok tt) m.imports) 0 ds)
