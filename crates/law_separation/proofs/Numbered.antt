-- The jobs of files into which other modules are put stand in the same order.
use Rattle.std.proofs.Common.{◌≡◌, ℕ, zero, suc, ◌+◌, Bool, true, false, cond, not, ◌&&◌, List, [], ◌∷◌, ◌++◌, map, take, refl, sym, ap, ap₂, subst, ◌∙◌, Option, Some, None}
use Rattle.std.specs.Prelude.{slice_get, slice_index}
use Rattle.std.specs.List.{filter_map, cons_option, list_all}
use Rattle.std.specs.Option.{option_map, option_to_list}
use Rattle.std.proofs.lemmas.Bool.{false≢true}
use Rattle.std.proofs.lemmas.Option.{none-some}
use Rattle.m2_tree.specs.Names.{same_name}
use Rattle.m2_tree.specs.declared.name.Ident.{Ident}
use Rattle.m2_tree.specs.declared.decl.Module.{Module}
use Rattle.graph_walk.specs.Links.{has, targets, flag}
use Rattle.graph_walk.specs.Numbering.{is_ready, IsNumbering}
use Rattle.m2_graph.specs.Files.{File, trees}
use Rattle.m2_graph.specs.Imports.{imports_of, is_definition, defines, definition_of, links_of, links, needs_of}
use Rattle.m2_graph.specs.Order.{body_numbers, IsJobOrder, needs}
use Rattle.law_graph.proofs.Lists.{later_among}
use Rattle.law_separation.specs.Alike.{Tree, imported_names, HaveSameHead}
use Rattle.law_separation.proofs.Replaced.{replace, put, AreGood}

filtered_same : {X Y : Type 0} (h g : X → Option Y) → ((x : X) → h x ≡ g x) → (xs : List X)
    → filter_map h xs ≡ filter_map g xs
filtered_same h g e [] = refl
filtered_same {X} {Y} h g e (x ∷ xs) = ap₂ (λ (o : Option Y) (ys : List Y). cons_option o ys) (e x)
    (filtered_same h g e xs)

named_filter : (h : List ℕ → Option ℕ) (is : List Ident)
    → filter_map (λ (i : Ident). h i.name) is ≡ filter_map h (map (λ (i : Ident). i.name) is)
named_filter h [] = refl
named_filter h (i ∷ is) = ap (λ (ks : List ℕ). cons_option (h i.name) ks) (named_filter h is)

-- the row of a module, if it is there
abbrev pub row : (Module → List ℕ) → Option Module → List ℕ
row f None = []
row f (Some m) = f m

pub row_at : (f : Module → List ℕ) (ms : List Module) (k : ℕ) → targets (map f ms) k ≡ row f (slice_get ms k)
row_at f [] k = refl
row_at f (m ∷ ms) zero = refl
row_at f (m ∷ ms) (suc k) = row_at f ms k

row_same : (f g : Module → List ℕ) → ((m : Module) → f m ≡ g m) → (o : Option Module) → row f o ≡ row g o
row_same f g e None = refl
row_same f g e (Some m) = e m

flag_at : (ms : List Module) (k : ℕ) → flag (map is_definition ms) k ≡ true → (m : Module) × (slice_get ms k ≡ Some m)
    × (is_definition m ≡ true)
flag_at [] k e = absurd (false≢true e)
flag_at (m ∷ ms) zero e = (m, refl, e)
flag_at (m ∷ ms) (suc k) e = flag_at ms k e

module _ (others : List Tree) where
  first_good : (f : File) (fs : List File) → AreGood others (f ∷ fs) → HaveSameHead f.tree (replace others f).tree
  first_good f fs good = good f (0, refl)

  rest_good : (f : File) (fs : List File) → AreGood others (f ∷ fs) → AreGood others fs
  rest_good f fs good x a = good x (later_among f fs x a)

  -- ---- definitions

  defines_same : (name : List ℕ) (f : File) → HaveSameHead f.tree (replace others f).tree
      → defines name (replace others f).tree ≡ defines name f.tree
  defines_same name f h = by (is_definition f.tree) refl
    where
      by : (b : Bool) → is_definition f.tree ≡ b → defines name (replace others f).tree ≡ defines name f.tree
      by true e = ap₂ (λ (b : Bool) (n : List ℕ). b && same_name name n) h.kind (h.head e).0
      by false e =
          ap (λ (b : Bool). b && same_name name (replace others f).tree.name.name) (h.kind ∙ e)
          ∙ sym (ap (λ (b : Bool). b && same_name name f.tree.name.name) e)

  pub definition_same : (fs : List File) → AreGood others fs → (name : List ℕ)
      → definition_of (trees (put others fs)) name ≡ definition_of (trees fs) name
  definition_same [] good name = refl
  definition_same (f ∷ fs) good name =
      ap₂ (λ (b : Bool) (o : Option ℕ). cond b (Some 0) (option_map suc o)) (defines_same name f (first_good f fs good))
      (definition_same fs (rest_good f fs good) name)

  -- the two modules in one place
  pub pair_at : (fs : List File) → AreGood others fs → (k : ℕ) (m : Module) → slice_get (trees fs) k ≡ Some m
      → (n : Module) × (slice_get (trees (put others fs)) k ≡ Some n) × HaveSameHead m n
  pair_at [] good k m e = absurd (none-some m e)
  pair_at (f ∷ fs) good zero m e =
      let s : f.tree ≡ m = cc in (
        (replace others f).tree,
        refl,
        subst (λ (t : Module). HaveSameHead t (replace others f).tree) s
            (first_good f fs good),
      )
  pair_at (f ∷ fs) good (suc k) m e = pair_at fs (rest_good f fs good) k m e

  pub none_at : (fs : List File) (k : ℕ) → slice_get (trees fs) k ≡ None → slice_get (trees (put others fs)) k ≡ None
  none_at [] k e = refl
  none_at (f ∷ fs) zero e = absurd (cc e)
  none_at (f ∷ fs) (suc k) e = none_at fs k e

  flags_same : (fs : List File) → AreGood others fs
      → map is_definition (trees (put others fs)) ≡ map is_definition (trees fs)
  flags_same [] good = refl
  flags_same (f ∷ fs) good = ap₂ (λ (b : Bool) (bs : List Bool). b ∷ bs) (first_good f fs good).kind
      (flags_same fs (rest_good f fs good))

  pub given_same : (fs : List File) → map (λ (f : File). f.given) (put others fs) ≡ map (λ (f : File). f.given) fs
  given_same [] = refl
  given_same (f ∷ fs) = ap (λ (ks : List ℕ). f.given ∷ ks) (given_same fs)

  bodies_same : (n : ℕ) (fs : List File) → AreGood others fs
      → body_numbers n (trees (put others fs)) ≡ body_numbers n (trees fs)
  bodies_same n [] good = refl
  bodies_same n (f ∷ fs) good =
      ap₂ (λ (b : Bool) (rest : List ℕ). cond b [] (n ∷ []) ++ rest) (first_good f fs good).kind
      (bodies_same (n + 1) fs (rest_good f fs good))

  module _ (fs : List File) (good : AreGood others fs) where
    abbrev ms : List Module
    ms = trees fs

    abbrev ns : List Module
    ns = trees (put others fs)

    links_same : (m n : Module) → imported_names n ≡ imported_names m → links_of ns n ≡ links_of ms m
    links_same m n e =
        named_filter (definition_of ns) (imports_of n)
        ∙ ap (filter_map (definition_of ns)) e
        ∙ filtered_same (definition_of ns) (definition_of ms) (definition_same fs good) (imported_names m)
        ∙ sym (named_filter (definition_of ms) (imports_of m))

    needs_same : (m : Module) → needs_of ns m ≡ needs_of ms m
    needs_same m = ap₂ (λ (o : Option ℕ) (ks : List ℕ). cond (is_definition m) [] (option_to_list o) ++ ks)
        (definition_same fs good m.name.name) (links_same m m refl)

    -- where the same module stands, the same is needed
    pub needs_at : (k : ℕ) → slice_get ns k ≡ slice_get ms k → targets (needs ns) k ≡ targets (needs ms) k
    needs_at k e =
        row_at (needs_of ns) ns k
        ∙ ap (row (needs_of ns)) e
        ∙ row_same (needs_of ns) (needs_of ms) needs_same (slice_get ms k)
        ∙ sym (row_at (needs_of ms) ms k)

    -- where the same is imported, the same is linked
    links_at : (k : ℕ) (m n : Module) → slice_get ms k ≡ Some m → slice_get ns k ≡ Some n
        → imported_names n ≡ imported_names m → targets (links ns) k ≡ targets (links ms) k
    links_at k m n e d i = row_at (links_of ns) ns k ∙ ap (row (links_of ns)) d ∙ links_same m n i
        ∙ sym (row_at (links_of ms) ms k ∙ ap (row (links_of ms)) e)

    -- ---- the order of the jobs

    abbrev flags : List Bool
    flags = map is_definition ms

    definition_links : (node : ℕ) → flag flags node ≡ true → targets (links ns) node ≡ targets (links ms) node
    definition_links node e =
        let m = flag_at ms node e in
        let n = pair_at fs good node m.0 m.1 in
        links_at node m.0 n.0 m.1 n.1 (n.2.head m.2).1

    ready_same : (done : ℕ → Bool) (node : ℕ)
        → is_ready (links ns) flags done node ≡ is_ready (links ms) flags done node
    ready_same done node = by (flag flags node) refl
      where
        by : (b : Bool) → flag flags node ≡ b
            → ((b && not (done node)) && list_all done (targets (links ns) node))
            ≡ ((b && not (done node)) && list_all done (targets (links ms) node))
        by true e = ap (λ (ts : List ℕ). (true && not (done node)) && list_all done ts) (definition_links node e)
        by false e = refl

    numbering_same : (order : List ℕ) → IsNumbering (links ms) flags order → IsNumbering (links ns) flags order
    numbering_same order a = record {
      each = λ k l. record {
        ready = ready_same (has (take k order)) (slice_index order k) ∙ (a.each k l).ready;
        first = λ other less. ready_same (has (take k order)) other ∙ (a.each k l).first other less;
      };
      whole = λ node. ready_same (has order) node ∙ a.whole node;
    }

    pub order_stays : (order : List ℕ) → IsJobOrder (links ms) ms order → IsJobOrder (links ns) ns order
    order_stays order x = (
      x.0,
      subst (λ (bs : List Bool). IsNumbering (links ns) bs x.0) (sym (flags_same fs good))
          (numbering_same x.0 x.1),
      x.2 ∙ ap (λ (ks : List ℕ). x.0 ++ ks) (sym (bodies_same 0 fs good)),
    )
