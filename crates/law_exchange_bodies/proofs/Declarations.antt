-- The declarations of a block, with other numbers of modules.
use Rattle.std.proofs.Common.{◌≡◌, ℕ, ◌==◌, Bool, false, ◌||◌, cond, List, fold, length, Result, Ok, refl, sym, ap, ap₂, ◌∙◌}
use Rattle.std.proofs.lemmas.List.{length-map}
use Rattle.m2_rule.specs.declared.rule.Rule.TheVariants as rule
use Rattle.m2_tree.specs.declared.pos.Pos.{Pos}
use Rattle.m2_tree.specs.declared.name.Ident.{Ident}
use Rattle.m2_tree.specs.declared.decl.Variables.{Variables}
use Rattle.m2_tree.specs.declared.decl.Heading.{Heading}
use Rattle.m2_tree.specs.declared.decl.Decl.{Decl, Decl-F, out-Decl}
use Rattle.m2_tree.specs.declared.decl.Decl.TheOpen as layer
use Rattle.m2_tree.specs.declared.decl.Module.{Module}
use Rattle.typed_tree.specs.declared.types.TypeNo.{TypeNo}
use Rattle.check_scope.specs.declared.known.Known.{Known}
use Rattle.check_scope.specs.declared.scope.Scope.{Scope}
use Rattle.check_scope.specs.Elaborated.{Gathers, beside, reported_where}
use Rattle.check_scope.specs.Scopes.{State}
use Rattle.check_type_expr.specs.Made.{nothing_of, type_of}
use Rattle.check_definition.specs.Declare.{with_constant, with_type, begun_name, finished_variable, with_variables, local_meaning}
use Rattle.check_definition.specs.Again.{Passing}
use Rattle.check_definition.specs.Importing.{with_import}
use Rattle.check_block.specs.declared.heading.Standing.{Standing}
use Rattle.check_block.specs.declared.heading.Standing.TheVariants.{Free, Awaited, Taken}
use Rattle.check_block.specs.Headings.{standing_known}
use Rattle.check_block.specs.Nesting.{number_behind}
use Rattle.check_block.specs.Naming.{marked_decl, all_marked}
use Rattle.check_block.specs.Declarations.{finished_local, with_locals, with_variables_of, Course, going_on, with_procedure, decl_layer, with_decl, again_layer, again_decl, Declared, all_declared, declared_block, is_awaited, or_awaited, lacks, reported_of_lack, declared_module}
use Rattle.def_exchange.specs.Moved.{Exchange, moved_meaning, moved_type}
use Rattle.law_exchange_types.specs.Pieces.{map_ok, moved_pair, same}
use Rattle.law_exchange_types.specs.Scopes.{moved_known, moved_names, moved_scope, moved_state, moved_state_of}
use Rattle.law_exchange_types.proofs.Basics.{cond_state, fold_moves, folds_move, then_map, map_then}
use Rattle.law_exchange_types.proofs.InScope.{finish_name_moves}
use Rattle.law_exchange_bodies.specs.Modules.{moved_standing, moved_course, moved_declared}
use Rattle.law_exchange_bodies.proofs.Declaring.{with_constant_moves, with_type_moves, begun_name_moves, finished_variable_moves, with_variable_type_moves}
use Rattle.law_exchange_types.proofs.MadePieces.{nothing_of_moves}
use Rattle.law_exchange_bodies.proofs.Headings.{standing_known_moves, with_heading_moves}
use Rattle.law_exchange_bodies.proofs.Naming.{all_marked_moves, marked_decl_moves}
use Rattle.law_exchange_types.proofs.Types.{type_moves}
use Rattle.law_exchange_types.proofs.Begin.{import_moves}
use Rattle.law_exchange_types.proofs.Again.{same_fold, passed_again, constants_again, types_again, lists_again}

-- ---- variables of a procedure

pub local_meaning_moves : (z : Exchange) {T : Type 0} (level n : ℕ) (t : Result TypeNo T)
    → local_meaning level n (map_ok (moved_type z) t) ≡ map_ok (moved_meaning z) (local_meaning level n t)
local_meaning_moves z level n t = simp (then_map, map_then)

pub finished_local_moves : (z : Exchange) {T : Type 0} (t : Result TypeNo T) (s : Scope T) (name : Ident)
    → finished_local (map_ok (moved_type z) t) (moved_scope z s) name ≡ moved_scope z (finished_local t s name)
finished_local_moves z t s name =
    simp (finish_name_moves, with_variable_type_moves, local_meaning_moves, length-map)

-- behind the type of a list of variables
abbrev ended_by : (g : Gathers) → (Result TypeNo g.Reported → Scope g.Reported → Ident → Scope g.Reported)
    → Result (Unit {0}) g.Reported → List Ident → State TypeNo g.Reported → State (Unit {0}) g.Reported
ended_by g finishes so names t = (fold (finishes t.1) t.0 names, beside g so (nothing_of t.1))

ended_by_moves : (z : Exchange) (g : Gathers)
    (finishes : Result TypeNo g.Reported → Scope g.Reported → Ident → Scope g.Reported)
    → ((t : Result TypeNo g.Reported) (s : Scope g.Reported) (name : Ident)
    → finishes (map_ok (moved_type z) t) (moved_scope z s) name ≡ moved_scope z (finishes t s name))
    → (so : Result (Unit {0}) g.Reported) (names : List Ident) (t : State TypeNo g.Reported)
    → ended_by g finishes so names (moved_state_of z (moved_type z) t) ≡ moved_state z (ended_by g finishes so names t)
ended_by_moves z g finishes e so names t =
    ap₂ (λ (s : Scope g.Reported) (r : Result (Unit {0}) g.Reported). (s, beside g so r))
    (fold_moves (moved_scope z) (finishes t.1) (finishes (map_ok (moved_type z) t.1)) (e t.1) t.0 names)
    (nothing_of_moves z t.1)

-- ---- declarations, in order

module _ (z : Exchange) (g : Gathers) where
  abbrev St : Type 0
  St = State (Unit {0}) g.Reported

  variables_by : (finishes : Result TypeNo g.Reported → Scope g.Reported → Ident → Scope g.Reported)
      → ((t : Result TypeNo g.Reported) (s : Scope g.Reported) (name : Ident)
      → finishes (map_ok (moved_type z) t) (moved_scope z s) name ≡ moved_scope z (finishes t s name))
      → (st : St) (v : Variables)
      → let b : St = fold (begun_name g) (moved_state z st) v.names in
      let d : St = fold (begun_name g) st v.names in
      ended_by g finishes b.1 v.names (type_of g v.of b.0)
      ≡ moved_state z (ended_by g finishes d.1 v.names (type_of g v.of d.0))
  variables_by finishes e st v =
      let d : St = fold (begun_name g) st v.names in
      ap (λ (b : St). ended_by g finishes b.1 v.names (type_of g v.of b.0))
      (fold_moves (moved_state z) (begun_name g) (begun_name g) (begun_name_moves z g) st v.names)
      ∙ (ap (ended_by g finishes d.1 v.names) (type_moves z g v.of d.0)
      ∙ ended_by_moves z g finishes e d.1 v.names (type_of g v.of d.0))

  pub with_variables_moves : (st : St) (v : Variables)
      → with_variables g (moved_state z st) v ≡ moved_state z (with_variables g st v)
  with_variables_moves st v = variables_by finished_variable (finished_variable_moves z) st v

  pub with_locals_moves : (st : St) (v : Variables)
      → with_locals g (moved_state z st) v ≡ moved_state z (with_locals g st v)
  with_locals_moves st v = variables_by finished_local (finished_local_moves z) st v

  pub with_variables_of_moves : (st : St) (vs : List Variables)
      → with_variables_of g (moved_state z st) vs ≡ moved_state z (with_variables_of g st vs)
  with_variables_of_moves st vs =
      ap₂ (cond {A = St} (st.0.level == 0))
      (fold_moves (moved_state z) (with_variables g) (with_variables g) with_variables_moves st vs)
      (fold_moves (moved_state z) (with_locals g) (with_locals g) with_locals_moves st vs)
      ∙ sym (cond_state z (st.0.level == 0) (fold (with_variables g) st vs) (fold (with_locals g) st vs))

  pub with_procedure_moves : (ends : List ℕ) (c : Course g.Reported) (h : Heading)
      → with_procedure g ends (moved_course z c) h ≡ moved_course z (with_procedure g ends c h)
  with_procedure_moves ends c h =
      ap (λ (d : St). (d.0, beside g c.1 d.1, number_behind ends c.2)) (with_heading_moves z g c.0 c.2 h)

  pub decl_layer_moves : {A B : Type 0} (ends : List ℕ) (c : Course g.Reported) (d : Decl-F A B)
      → decl_layer g ends (moved_course z c) d ≡ moved_course z (decl_layer g ends c d)
  decl_layer_moves ends c (layer.Constants cs) =
      ap (λ (st : St). going_on st c.2)
      (fold_moves (moved_state z) (with_constant g) (with_constant g) (with_constant_moves z g) (c.0, c.1) cs)
  decl_layer_moves ends c (layer.Types ts) =
      ap (λ (st : St). going_on st c.2)
      (fold_moves (moved_state z) (with_type g) (with_type g) (with_type_moves z g) (c.0, c.1) ts)
  decl_layer_moves ends c (layer.Variables vs) =
      ap (λ (st : St). going_on st c.2) (with_variables_of_moves (c.0, c.1) vs)
  decl_layer_moves ends c (layer.Procedure h b) = with_procedure_moves ends c h

  pub with_decl_moves : (ends : List ℕ) (c : Course g.Reported) (d : Decl)
      → with_decl g ends (moved_course z c) d ≡ moved_course z (with_decl g ends c d)
  with_decl_moves ends c d = decl_layer_moves ends c (out-Decl d)

-- ---- declarations, read again

module _ (z : Exchange) (g : Gathers) where
  pub again_layer_moves : {A B : Type 0} (s : Scope g.Reported) (p : Passing g.Reported) (d : Decl-F A B)
      → again_layer g (moved_scope z s) p d ≡ again_layer g s p d
  again_layer_moves s p (layer.Constants cs) = constants_again z g s p cs
  again_layer_moves s p (layer.Types ts) = types_again z g s p ts
  again_layer_moves s p (layer.Variables vs) = lists_again z g s p vs
  again_layer_moves s p (layer.Procedure h b) = passed_again z g s p h.name

  again_decl_moves : (s : Scope g.Reported) (p : Passing g.Reported) (d : Decl)
      → again_decl g (moved_scope z s) p d ≡ again_decl g s p d
  again_decl_moves s p d = again_layer_moves s p (out-Decl d)

-- ---- a block

-- behind its declarations
abbrev pub read_behind : {T X : Type 0} → (Scope T → Passing T → X → Passing T) → ℕ → List X → List ℕ → Course T
    → Declared T
read_behind again n xs seen c = (c.0, (fold (again c.0) (c.1, n) xs).0, seen)

-- behind its marks
abbrev pub declared_behind : {T X : Type 0} → (Course T → X → Course T) → (Scope T → Passing T → X → Passing T)
    → Result (Unit {0}) T → ℕ → ℕ → List X → Scope T × List ℕ → Declared T
declared_behind declares again so n first xs m = read_behind again n xs m.1 (fold declares (m.0, so, first) xs)

-- how many names stand in front of it
pub own_moves : (z : Exchange) {T : Type 0} (s : Scope T) → length (moved_names z s.own) ≡ length s.own
own_moves z {T} s = length-map s.own (λ (e : List ℕ × Known T). (e.0, moved_known z e.1))

module _ (z : Exchange) {T X : Type 0} (marks : Scope T → X → Scope T) (declares : Course T → X → Course T)
    (again : Scope T → Passing T → X → Passing T)
    (marks_move : (s : Scope T) (x : X) → marks (moved_scope z s) x ≡ moved_scope z (marks s x))
    (declares_move : (c : Course T) (x : X) → declares (moved_course z c) x ≡ moved_course z (declares c x))
    (again_moves : (s : Scope T) (p : Passing T) (x : X) → again (moved_scope z s) p x ≡ again s p x) where
  pub all_declared_moves : (st : State (Unit {0}) T) (first : ℕ) (xs : List X)
      → all_declared marks declares again (moved_state z st) first xs
      ≡ moved_declared z (all_declared marks declares again st first xs)
  all_declared_moves st first xs =
      let m : Scope T × List ℕ = all_marked marks st.0 xs in
      let c : Course T = fold declares (m.0, st.1, first) xs in
      let n : ℕ = length st.0.own in
      ap₂ (λ (n : ℕ) (m : Scope T × List ℕ). declared_behind declares again st.1 n first xs m)
      (own_moves z st.0) (all_marked_moves z marks marks_move st.0 xs)
      ∙ (ap (read_behind again n xs m.1)
      (fold_moves (moved_course z) declares declares declares_move (m.0, st.1, first) xs)
      ∙ ap (λ (p : Passing T). (moved_scope z c.0, p.0, m.1))
      (same_fold (again c.0) (again (moved_scope z c.0)) (again_moves c.0) (c.1, n) xs))

module _ (z : Exchange) (g : Gathers) where
  pub declared_block_moves : (ends : List ℕ) (st : State (Unit {0}) g.Reported) (first : ℕ) (decls : List Decl)
      → declared_block g ends (moved_state z st) first decls
      ≡ moved_declared z (declared_block g ends st first decls)
  declared_block_moves ends st first decls =
      all_declared_moves z marked_decl (with_decl g ends) (again_decl g) (marked_decl_moves z)
      (with_decl_moves z g ends) (again_decl_moves z g) st first decls

-- ---- a module's

pub is_awaited_moves : (z : Exchange) (s : Standing) → is_awaited (moved_standing z s) ≡ is_awaited s
is_awaited_moves z Free = refl
is_awaited_moves z (Awaited p) = refl
is_awaited_moves z Taken = refl

pub or_awaited_moves : (z : Exchange) {T : Type 0} (so : Bool) (e : List ℕ × Known T)
    → or_awaited so (moved_pair same (moved_known z) e) ≡ or_awaited so e
or_awaited_moves z so e =
    ap (λ (b : Bool). so || b) (ap is_awaited (standing_known_moves z e.1) ∙ is_awaited_moves z (standing_known e.1))

pub lacks_moves : (z : Exchange) {T : Type 0} (own : List (List ℕ × Known T))
    → lacks (moved_names z own) ≡ lacks own
lacks_moves z {T} own =
    folds_move same (moved_pair same (moved_known z {T = T})) or_awaited or_awaited (or_awaited_moves z) false own

pub reported_of_lack_moves : (z : Exchange) (g : Gathers) (at : Pos) (s : Scope g.Reported)
    → reported_of_lack g at (moved_scope z s) ≡ reported_of_lack g at s
reported_of_lack_moves z g at s =
    ap (λ (b : Bool). reported_where g b at rule.MissingProcedure (Ok tt)) (lacks_moves z s.own)

module _ (z : Exchange) (g : Gathers) where
  abbrev behind_imports : List ℕ → Module → List Decl → State (Unit {0}) g.Reported → Declared g.Reported
  behind_imports ends m decls st =
      let d = declared_block g ends st 0 decls in
      (d.0, beside g d.1 (reported_of_lack g m.name.pos d.0), d.2)

  pub declared_module_moves : (modules : List (List ℕ × ℕ)) (ends : List ℕ) (s : Scope g.Reported) (m : Module)
      (decls : List Decl)
      → declared_module g modules ends (moved_scope z s) m decls
      ≡ moved_declared z (declared_module g modules ends s m decls)
  declared_module_moves modules ends s m decls =
      let st : State (Unit {0}) g.Reported = fold (with_import g modules) (s, Ok tt) m.imports in
      let d : Declared g.Reported = declared_block g ends st 0 decls in
      ap (behind_imports ends m decls)
      (fold_moves (moved_state z) (with_import g modules) (with_import g modules) (import_moves z g modules) (s, Ok tt)
      m.imports)
      ∙ (ap (λ (d : Declared g.Reported). (d.0, beside g d.1 (reported_of_lack g m.name.pos d.0), d.2))
      (declared_block_moves z g ends st 0 decls)
      ∙ ap (λ (r : Result (Unit {0}) g.Reported). (moved_scope z d.0, beside g d.1 r, d.2))
      (reported_of_lack_moves z g m.name.pos d.0))
