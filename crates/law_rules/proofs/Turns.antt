-- The names of a block stand in its scope in the order of the text.
use Rattle.std.proofs.Common.{◌≡◌, ℕ, ◌+◌, ◌<◌, ◌≤◌, List, [], ◌∷◌, ◌++◌, length, Option, Some, None, refl, sym, ap, subst, ◌∙◌, arith, length-append}
use Rattle.std.specs.Prelude.{map}
use Rattle.std.specs.List.{fold}
use Rattle.m2_tree.specs.declared.name.Ident.{Ident}
use Rattle.m2_tree.specs.declared.decl.TypeDecl.{TypeDecl}
use Rattle.m2_tree.specs.declared.decl.Variables.{Variables}
use Rattle.m2_tree.specs.declared.decl.Def.{Def}
use Rattle.m2_tree.specs.declared.decl.Def.TheVariants as def
use Rattle.m2_tree.specs.declared.decl.Decl.{Decl, Decl-F, out-Decl}
use Rattle.m2_tree.specs.declared.decl.Decl.TheOpen as decl
use Rattle.m2_tree.specs.declared.decl.Block.{Block}
use Rattle.typed_tree.specs.Names.{find_name, enter_name, place_of}
use Rattle.check_scope.specs.declared.known.Known.{Known}
use Rattle.check_scope.specs.declared.known.Known.TheVariants.{Later, Ahead}
use Rattle.check_scope.specs.declared.scope.Scope.{Scope}
use Rattle.check_scope.specs.Scopes.{unless_marked, mark_name}
use Rattle.check_definition.specs.Marking.{marked_later, marked_constant, marked_type, marked_variables, marked_def}
use Rattle.check_block.specs.Naming.{marked_layer, marked_decl}
use Rattle.def_typing.specs.TypeExprs.{constants_in}
use Rattle.def_typing.specs.Declarations.{Declaration, OfConstant, OfType, OfVariables, declared_by, declarations_of}
use Rattle.law_typing.specs.Again as again
use Rattle.law_typing.specs.Again.{StandInTurn, no_more, stood_before, stands_next}
use Rattle.law_typing.proofs.Naming.{index, index_less, place_found}
use Rattle.law_rules.specs.Defining.{declared_in, all_declared}
use Rattle.law_rules.proofs.Keys.{entered_last, entered_self}
use Rattle.law_rules.proofs.Listing.{all_names, names_all, names_both}
use Rattle.law_rules.proofs.Marks.{type_marked}
use Rattle.law_rules.proofs.BodiesKeeping.{Names, Grows, grows_refl, grows_then, grows_entered}

-- ---- one name after another

between : {a b c : ℕ} → a ≤ b → b < c → c ≡ a + 1 → b ≡ a
between l u e = omega (arith, l, u, e)

module _ {V : Type 0} where
  -- These names are entered where they are not there yet.
  pub data Enters : Names V → List Ident → Names V → Type 0 where
    enters_none : {es : Names V} → Enters es [] es
    is_there : {es fs : Names V} {x : Ident} {xs : List Ident} {k : V} → find_name x.name es ≡ Some k → Enters es xs fs
        → Enters es (x ∷ xs) fs
    is_new : {es fs : Names V} {x : Ident} {xs : List Ident} (k : V) → find_name x.name es ≡ None
        → Enters (enter_name x.name k es) xs fs → Enters es (x ∷ xs) fs

  enters_both : {es fs gs : Names V} {xs ys : List Ident} → Enters es xs fs → Enters fs ys gs → Enters es (xs ++ ys) gs
  enters_both enters_none w = w
  enters_both (is_there e z) w = is_there e (enters_both z w)
  enters_both (is_new k e z) w = is_new k e (enters_both z w)

  pub enters_grow : {es fs : Names V} {xs : List Ident} → Enters es xs fs → Grows es fs
  enters_grow {es = es} enters_none = grows_refl es
  enters_grow (is_there e z) = enters_grow z
  enters_grow {es = es} (is_new {x = x} k e z) = grows_then (grows_entered x.name k es) (enters_grow z)

  one_longer : (name : List ℕ) (k : V) (es : Names V) → find_name name es ≡ None
      → length (enter_name name k es) ≡ length es + 1
  one_longer name k es e = ap (λ (fs : Names V). length fs) (entered_last name k es e)
      ∙ length-append es ((name, k) ∷ [])

  new_index : (name : List ℕ) (k : V) (es : Names V) → find_name name es ≡ None
      → index name (enter_name name k es) ≡ length es
  new_index name k es e =
      between ((grows_entered name k es).new name k e (entered_self name k es))
      (index_less name (enter_name name k es) k (entered_self name k es)) (one_longer name k es e)

  -- where a name stands, it stands in a list that grew
  stays : {es own : Names V} (name : List ℕ) (k : V) → Grows es own → find_name name es ≡ Some k
      → place_of name own ≡ Some (index name es)
  stays {own = own} name k g e = let q = g.kept name k e in
      place_found name own q.0 q.1 ∙ ap (λ (p : ℕ). Some p) q.2

  pub in_turn : {es fs own : Names V} {xs : List Ident} → Enters es xs fs → Grows fs own
      → StandInTurn own (length es) xs
  in_turn enters_none g = no_more
  in_turn {es = es} (is_there {x = x} {k = k} e z) g =
      stood_before (index x.name es, stays x.name k (grows_then (enters_grow z) g) e, index_less x.name es k e)
      (in_turn z g)
  in_turn {es = es} {own = own} (is_new {x = x} {xs = xs} k e z) g = let next = enter_name x.name k es in
      stands_next (stays x.name k (grows_then (enters_grow z) g) (entered_self x.name k es)
      ∙ ap (λ (p : ℕ). Some p) (new_index x.name k es e))
      (subst (λ (n : ℕ). StandInTurn own n xs) (one_longer x.name k es e) (in_turn z g))

-- ---- what is marked

module _ {T : Type 0} where
  abbrev Marking : List Ident → Scope T → Scope T → Type 0
  Marking xs s t = Enters s.own xs t.own

  as_names : {xs ys : List Ident} (s t : Scope T) → xs ≡ ys → Marking xs s t → Marking ys s t
  as_names s t e m = subst (λ (zs : List Ident). Marking zs s t) e m

  mark_by : (x : Ident) (k : Known T) (s : Scope T) (o : Option (Known T)) → find_name x.name s.own ≡ o
      → Marking (x ∷ []) s (unless_marked x.name k s o)
  mark_by x k s (Some e) q = is_there q enters_none
  mark_by x k s None q = is_new k q enters_none

  mark_one : (x : Ident) (k : Known T) (s : Scope T) → Marking (x ∷ []) s (mark_name x k s)
  mark_one x k s = mark_by x k s (find_name x.name s.own) refl

  list_marked : (xs : List Ident) (s : Scope T) → Marking xs s (fold marked_later s xs)
  list_marked [] s = enters_none
  list_marked (x ∷ xs) s = enters_both (mark_one x Later s) (list_marked xs (marked_later s x))

  type_declares : (d : TypeDecl) (s : Scope T) → Marking (d.name ∷ constants_in d.of) s (marked_type s d)
  type_declares d s = subst (λ (t : Scope T). Marking (d.name ∷ constants_in d.of) s t)
      (sym (type_marked T d.of (mark_name d.name Later s)))
      (enters_both (mark_one d.name Later s) (list_marked (constants_in d.of) (mark_name d.name Later s)))

  variables_declare : (v : Variables) (s : Scope T) → Marking (v.names ++ constants_in v.of) s (marked_variables s v)
  variables_declare v s = subst (λ (t : Scope T). Marking (v.names ++ constants_in v.of) s t)
      (sym (type_marked T v.of (fold marked_later s v.names)))
      (enters_both (list_marked v.names s) (list_marked (constants_in v.of) (fold marked_later s v.names)))

  section_declares : {X : Type 0} (f : Scope T → X → Scope T) (of : X → Declaration) (ns : X → List Ident)
      → ((x : X) (s : Scope T) → Marking (ns x) s (f s x))
      → ((x : X) (rest : List Declaration) → names_all (of x ∷ rest) ≡ ns x ++ names_all rest)
      → (xs : List X) (s : Scope T) → Marking (names_all (map of xs)) s (fold f s xs)
  section_declares f of ns h e [] s = enters_none
  section_declares f of ns h e (x ∷ xs) s = as_names s (fold f (f s x) xs) (sym (e x (map of xs)))
      (enters_both (h x s) (section_declares f of ns h e xs (f s x)))

  layer_declares : (y : Decl-F Decl Block) (s : Scope T) → Marking (names_all (declared_by y)) s (marked_layer s y)
  layer_declares (decl.Constants cs) s = section_declares marked_constant OfConstant (λ c. c.name ∷ [])
      (λ c s. mark_one c.name Later s) (λ c rest. refl) cs s
  layer_declares (decl.Types ts) s = section_declares marked_type OfType (λ d. d.name ∷ constants_in d.of) type_declares
      (λ d rest. refl) ts s
  layer_declares (decl.Variables vs) s = section_declares marked_variables OfVariables
      (λ v. v.names ++ constants_in v.of) variables_declare (λ v rest. refl) vs s
  layer_declares (decl.Procedure h b) s = mark_one h.name Ahead s

  pub decls_turn : (ds : List Decl) (s : Scope T) → Marking (names_all (declarations_of ds)) s (fold marked_decl s ds)
  decls_turn [] s = enters_none
  decls_turn (d ∷ ds) s = as_names s (fold marked_decl (marked_decl s d) ds)
      (sym (names_both (declared_by (out-Decl d)) (declarations_of ds)))
      (enters_both (layer_declares (out-Decl d) s) (decls_turn ds (marked_decl s d)))

  def_declares : (d : Def) (s : Scope T) → Marking (names_all (declared_in d)) s (marked_def s d)
  def_declares (def.Constants cs) s = section_declares marked_constant OfConstant (λ c. c.name ∷ [])
      (λ c s. mark_one c.name Later s) (λ c rest. refl) cs s
  def_declares (def.Types ts) s = section_declares marked_type OfType (λ d. d.name ∷ constants_in d.of) type_declares
      (λ d rest. refl) ts s
  def_declares (def.Variables vs) s = section_declares marked_variables OfVariables (λ v. v.names ++ constants_in v.of)
      variables_declare (λ v rest. refl) vs s
  def_declares (def.Procedure h) s = mark_one h.name Ahead s

  pub defs_turn : (ds : List Def) (s : Scope T) → Marking (names_all (all_declared ds)) s (fold marked_def s ds)
  defs_turn [] s = enters_none
  defs_turn (d ∷ ds) s = as_names s (fold marked_def (marked_def s d) ds)
      (sym (names_both (declared_in d) (all_declared ds)))
      (enters_both (def_declares d s) (defs_turn ds (marked_def s d)))

pub same_names : (ds : List Declaration) → names_all ds ≡ again.all_names ds
same_names [] = refl
same_names (d ∷ ds) = ap (λ (xs : List Ident). all_names d ++ xs) (same_names ds)
