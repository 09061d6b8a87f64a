-- Jobs that are needed compile definitions which the module needs.
use Rattle.std.proofs.Common.{◌≡◌, ℕ, zero, suc, Bool, true, false, cond, ◌&&◌, ◌||◌, ◌==◌, List, [], ◌∷◌, refl, ap, subst, ◌∙◌, inl, inr, Option, Some, None, ◌⊎◌}
use Rattle.std.specs.Prelude.{slice_get}
use Rattle.std.specs.List.{AllZip}
use Rattle.std.specs.Option.{option_to_list}
use Rattle.std.specs.Cmp.Lexicographic.{bytes_decides}
use Rattle.std.proofs.lemmas.Bool.{false≢true, eqb-true}
use Rattle.m2_tree.specs.Names.{same_name}
use Rattle.m2_tree.specs.declared.name.Ident.{Ident}
use Rattle.m2_tree.specs.declared.decl.Module.{Module}
use Rattle.graph_walk.specs.Links.{unless, targets}
use Rattle.pool_board.specs.Graph.{prerequisites_of}
use Rattle.m2_graph.specs.Imports.{imports_of, is_definition, defines, definition_of, links_of, own_definition, needs_of}
use Rattle.m2_graph.specs.Jobs.{number_of, numbers_of}
use Rattle.m2_graph.specs.Order.{IsJob, needs}
use Rattle.law_graph.proofs.Lists.{Among, none_among, later_among, among_cases, among_append_cases, filtered_among, among-map}
use Rattle.law_graph.proofs.Passing.{found_at}
use Rattle.law_separation.specs.Alike.{imported_names}
use Rattle.law_separation.proofs.Numbered.{row, row_at}

once_among : (marked : ℕ → Bool) (xs : List ℕ) (p : ℕ) → Among (unless marked xs) p → Among xs p
once_among marked [] p a = a
once_among marked (x ∷ xs) p a = by (once_among marked xs p) (once_among (λ k. marked k || (x == k)) xs p) (marked x) a
  where
    by : (Among (unless marked xs) p → Among xs p) → (Among (unless (λ k. marked k || (x == k)) xs) p → Among xs p)
        → (b : Bool)
        → Among (cond b (unless marked xs) (x ∷ unless (λ k. marked k || (x == k)) xs)) p → Among (x ∷ xs) p
    by out kept true a = later_among x xs p (out a)
    by out kept false a = elim (among_cases x (unless (λ k. marked k || (x == k)) xs) p a)
        [ inl e ↦ (0, ap Some e) | inr more ↦ later_among x xs p (kept more) ]

both_true : (b c : Bool) → (b && c) ≡ true → (b ≡ true) × (c ≡ true)
both_true true c e = (refl, e)
both_true false c e = absurd (false≢true e)

-- what the job of a node needs
abbrev pub need : List Module → List ℕ → Option ℕ → List ℕ
need ms order None = []
need ms order (Some node) = unless (λ k. false) (numbers_of order (targets (needs ms) node))

pub needed_at : (ms : List Module) (order nodes : List ℕ) (js : List (List ℕ)) → AllZip (IsJob ms order) nodes js
    → (j : ℕ) → prerequisites_of js j ≡ need ms order (slice_get nodes j)
needed_at ms order [] [] z j = refl
needed_at ms order [] (row ∷ js) z j = absurd z
needed_at ms order (n ∷ ns) [] z j = absurd z
needed_at ms order (n ∷ ns) (row ∷ js) z zero = z.0
needed_at ms order (n ∷ ns) (row ∷ js) z (suc j) = needed_at ms order ns js z.1 j

-- the name of its own definition, or of one that it imports
abbrev pub DirectlyNeeds : Module → List ℕ → Type 0
DirectlyNeeds m name = ((is_definition m ≡ false) × (m.name.name ≡ name)) ⊎ Among (imported_names m) name

module _ (ms : List Module) where
  -- a definition that is found by a name which the module needs
  abbrev IsFound : Module → ℕ → Type 0
  IsFound m d = (name : List ℕ) × DirectlyNeeds m name × (definition_of ms name ≡ Some d)

  own_found : (m : Module) (d : ℕ) (b : Bool) (o : Option ℕ) → is_definition m ≡ b → definition_of ms m.name.name ≡ o
      → Among (cond b [] (option_to_list o)) d → IsFound m d
  own_found m d true o k e a = absurd (none_among d a)
  own_found m d false None k e a = absurd (none_among d a)
  own_found m d false (Some x) k e a = elim (among_cases x [] d a)
      [ inl s ↦ (m.name.name, inl (k, refl), e ∙ ap Some s) | inr none ↦ absurd (none_among d none) ]

  needs_found : (m : Module) (d : ℕ) → Among (needs_of ms m) d → IsFound m d
  needs_found m d a = elim (among_append_cases (own_definition ms m) (links_of ms m) d a) [
    | inl own ↦ own_found m d (is_definition m) (definition_of ms m.name.name) refl refl own
    | inr linked ↦ (let r = filtered_among (λ (i : Ident). definition_of ms i.name) (imports_of m) d linked in
        (r.0.name, inr (among-map (λ (i : Ident). i.name) (imports_of m) r.0 r.1), r.2))
  ]

  node_found : (node d : ℕ) → Among (targets (needs ms) node) d → (m : Module) × (slice_get ms node ≡ Some m)
      × IsFound m d
  node_found node d a = by (slice_get ms node) refl
      (subst (λ (ts : List ℕ). Among ts d) (row_at (needs_of ms) ms node) a)
    where
      by : (o : Option Module) → slice_get ms node ≡ o → Among (row (needs_of ms) o) d → (m : Module)
          × (slice_get ms node ≡ Some m) × IsFound m d
      by None e a = absurd (none_among d a)
      by (Some m) e a = (m, e, needs_found m d a)

  -- the job of this number compiles a definition that the module of a node needs
  pub record IsNeeded (order : List ℕ) (from p : ℕ) : Type 0 where
    pub user : Module
    pub user_there : slice_get ms from ≡ Some user
    pub m : Module
    pub direct : DirectlyNeeds user m.name.name
    pub node : ℕ
    pub at : slice_get order p ≡ Some node
    pub there : slice_get ms node ≡ Some m
    pub definition : is_definition m ≡ true

  pub needed_defined : (order : List ℕ) (from p : ℕ) → Among (need ms order (Some from)) p → IsNeeded order from p
  needed_defined order from p a =
      let n = once_among (λ k. false) (numbers_of order (targets (needs ms) from)) p a in
      let r = filtered_among (number_of order) (targets (needs ms) from) p n in
      let w = node_found from r.0 r.1 in
      let found = w.2 in
      let m = found_at (defines found.0) ms r.0 found.2 in
      let both = both_true (is_definition m.0) (same_name found.0 m.0.name.name) m.2 in
      let f = found_at (λ one. one == r.0) order p r.2 in
      record {
        user = w.0;
        user_there = w.1;
        m = m.0;
        direct = subst (λ (name : List ℕ). DirectlyNeeds w.0 name) ((bytes_decides found.0 m.0.name.name).0 both.1)
            found.1;
        node = r.0;
        at = f.1 ∙ ap Some (eqb-true f.0 r.0 f.2);
        there = m.1;
        definition = both.0;
      }
