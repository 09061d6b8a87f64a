-- The bodies that a walk from the program module comes to: their names differ, and what they import is among them.
use Rattle.std.proofs.Common.{◌≡◌, ◌<◌, ◌≤◌, ℕ, Bool, true, false, cond, ◌==◌, List, [], ◌∷◌, length, refl, sym, ap, ◌∙◌, inl, inr, arith, eq-eqb, Option, Some, None, ◌⊎◌}
use Rattle.std.specs.Prelude.{slice_get}
use Rattle.std.specs.List.{All, filter_map, cons_option}
use Rattle.std.specs.Str.{bytes_eq}
use Rattle.std.specs.Cmp.Lexicographic.{bytes_decides}
use Rattle.std.proofs.lemmas.Bool.{false≢true, and_parts, or_left, or_right}
use Rattle.std.proofs.lemmas.Option.{get_or_from_slice_get, slice_get_within}
use Rattle.m2_tree.specs.declared.decl.Module.{Module}
use Rattle.m2_tree.specs.declared.name.Ident.{Ident}
use Rattle.graph_walk.specs.Links.{has, times, targets}
use Rattle.graph_walk.specs.Starts.{One, Walks}
use Rattle.graph_walk.proofs.Marking.{has-append}
use Rattle.graph_walk.proofs.Chains.{times_has}
use Rattle.m2_tree.specs.Names.{same_name, is_console}
use Rattle.m2_graph.specs.Imports.{imports_of, is_definition, is_program, is_implementation, defines, implements, first_that, definition_of, links_of, links_at, body_links, walks}
use Rattle.law_graph.specs.Started.{names_of, is_named, AreApart}
use Rattle.law_graph.proofs.Lists.{Among, has_among, among_has, filtered_among, among_filtered, all_among, map_among, among-map, any_among}
use Rattle.law_graph.proofs.Passing.{found_at}
use Rattle.law_graph.proofs.Fine.{AreFine}
use Rattle.law_graph.proofs.Starting.{same_at, implementation_part, start, Starts, starts_of, starts_for, walks_at, walk_named}
use Rattle.law_graph.proofs.StartWalking.{Closes, closes}

-- ---- names of their own

named_apart : (modules : List Module) (ns : List ℕ) → ((k : ℕ) → times ns k ≤ 1) →
    ((j k : ℕ) (b c : Module) → has ns j ≡ true → has ns k ≡ true → start modules j ≡ Some b → start modules k ≡ Some c
    → b.name.name ≡ c.name.name → j ≡ k) → AreApart (names_of (filter_map (start modules) ns))
named_apart modules [] once own = tt
named_apart modules (n ∷ ns) once own = step
    (named_apart modules ns fewer (λ j k b c h i. own j k b c (later j h) (later k i))) (start modules n) refl
  where
    fewer : (k : ℕ) → times ns k ≤ 1
    fewer k = let l = once k in omega (arith, l)

    later : (k : ℕ) → has ns k ≡ true → has (n ∷ ns) k ≡ true
    later k h = or_right (n == k) (has ns k) h

    -- no other one of this name is behind it
    other : (b c : Module) (k : ℕ) → start modules n ≡ Some b → start modules k ≡ Some c → has ns k ≡ true
        → b.name.name ≡ c.name.name → ⊥
    other b c k e g h s =
        let q = own n k b c (or_left (n == n) (has ns n) (eq-eqb n n refl)) (later k h) e g s in
        let l = once n in
        let m = times_has ns n (ap (has ns) q ∙ h) in
        let o : cond {A = ℕ} (n == n) 1 0 ≡ 1 = ap (λ (t : Bool). cond t 1 0) (eq-eqb n n refl) in
        omega (arith, l, m, o)

    behind : (b : Module) → start modules n ≡ Some b → (y : List ℕ) → Among (names_of (filter_map (start modules) ns)) y
        → b.name.name ≡ y → ⊥
    behind b e y a s =
        let r = map_among (λ (m : Module). m.name.name) (filter_map (start modules) ns) y a in
        let f = filtered_among (start modules) ns r.0 r.1 in
        other b r.0 f.0 e f.2 (among_has ns f.0 f.1) (s ∙ sym r.2)

    step : AreApart (names_of (filter_map (start modules) ns)) → (o : Option Module) → start modules n ≡ o
        → AreApart (names_of (cons_option o (filter_map (start modules) ns)))
    step rest None e = rest
    step rest (Some b) e = (
      all_among (λ (y : List ℕ). b.name.name ≡ y → ⊥) (names_of (filter_map (start modules) ns))
          (behind b e),
      rest,
    )

-- ---- the walk

module _ (modules : List Module) (fine : AreFine modules) (program : ℕ)
    (is_first : first_that is_program modules ≡ Some program) (walk later : List ℕ)
    (walked : Walks (walks modules) (One program) [] walk later) where
  facts : Closes (walks modules) (One program) [] walk later
  facts = closes (walks modules) (One program) [] walk later walked

  -- a module that a walk comes to is the program module or a definition
  kinds : (k : ℕ) → has walk k ≡ true → (m : Module) × (slice_get modules k ≡ Some m)
      × ((is_definition m ≡ true) ⊎ (is_program m ≡ true))
  kinds k h = elim (facts.origin k h) [
    | inl e ↦ (let f = found_at is_program modules program is_first in
        (f.0, ap (slice_get modules) (sym e) ∙ f.1, inr f.2))
    | inr q ↦ (let n = walk_named modules q.0 k q.1 in let f = found_at (defines n.0) modules k n.1 in
        (f.0, f.1, inl (and_parts (is_definition f.0) (same_name n.0 f.0.name.name) f.2).0))
  ]

  pub reached_within : (k : ℕ) → has walk k ≡ true → k < length modules
  reached_within k h = let m = kinds k h in slice_get_within modules k m.0 m.1

  pub reached_once : (k : ℕ) → times walk k ≤ 1
  reached_once k = facts.once k

  -- a module that is no definition is no implementation
  no_body : (k : ℕ) (m : Module) → has walk k ≡ true → slice_get modules k ≡ Some m → is_definition m ≡ false
      → is_implementation m ≡ true → ⊥
  no_body k m h at d i =
      let q = kinds k h in
      let is : q.0 ≡ m = same_at (slice_get modules k) q.0 m q.1 at in
      elim q.2 [
        | inl e ↦ false≢true (sym d ∙ ap is_definition (sym is) ∙ e)
        | inr e ↦ false≢true (sym (implementation_part m i).1 ∙ ap is_program (sym is) ∙ e)
      ]

  -- two bodies of one name are one
  one_body : (j k : ℕ) (b c : Module) → slice_get modules j ≡ Some b → slice_get modules k ≡ Some c
      → is_definition b ≡ false → is_definition c ≡ false → b.name.name ≡ c.name.name → b ≡ c
  one_body j k b c e g d f s = let q = fine.apart j k b c e g (d ∙ sym f) s in
      same_at (slice_get modules k) b c (ap (slice_get modules) (sym q) ∙ e) g

  -- two nodes at which bodies of one name start are one
  own : (j k : ℕ) (b c : Module) → has walk j ≡ true → has walk k ≡ true → start modules j ≡ Some b
      → start modules k ≡ Some c → b.name.name ≡ c.name.name → j ≡ k
  own j k b c h i e g s = elim x.how [
    | inl p ↦ elim y.how [
      | inl q ↦ fine.apart j k x.m y.m x.at y.at (p.0 ∙ sym q.0) names
      | inr q ↦ absurd (no_body k y.m i y.at q.0 (ap is_implementation (q.1 ∙ sym same) ∙ p.2))
    ]
    | inr p ↦ elim y.how [
      | inl q ↦ absurd (no_body j x.m h x.at p.0 (ap is_implementation (p.1 ∙ same) ∙ q.2))
      | inr q ↦ fine.apart j k x.m y.m x.at y.at (p.0 ∙ sym q.0) names
    ]
  ]
    where
      x : Starts modules j b
      x = starts_of modules j b e

      y : Starts modules k c
      y = starts_of modules k c g

      names : x.m.name.name ≡ y.m.name.name
      names = x.same ∙ s ∙ sym y.same

      same : b ≡ c
      same = one_body x.place y.place b c x.found y.found x.body y.body s

  pub reached_apart : AreApart (names_of (filter_map (start modules) walk))
  reached_apart = named_apart modules walk reached_once own

  pub reached_bodies : All (λ m. is_definition m ≡ false) (filter_map (start modules) walk)
  reached_bodies = all_among (λ (m : Module). is_definition m ≡ false) (filter_map (start modules) walk)
      (λ b a. let f = filtered_among (start modules) walk b a in (starts_of modules f.0 b f.2).body)

  -- ---- imports

  linked : (m : Module) (x : Ident) (t : ℕ) → Among (imports_of m) x → definition_of modules x.name ≡ Some t
      → has (links_of modules m) t ≡ true
  linked m x t a e = among_has (links_of modules m) t
      (among_filtered (λ (i : Ident). definition_of modules i.name) (imports_of m) x t a e)

  walk_left : (n : ℕ) (m : Module) (t : ℕ) → slice_get modules n ≡ Some m → has (links_of modules m) t ≡ true
      → has (targets (walks modules) n) t ≡ true
  walk_left n m t e h = ap (λ (ts : List ℕ). has ts t) (walks_at modules n m e)
      ∙ has-append (links_of modules m) (body_links modules m) t
      ∙ or_left (has (links_of modules m) t) (has (body_links modules m) t) h

  walk_right : (n : ℕ) (m b : Module) (place t : ℕ) → slice_get modules n ≡ Some m → is_definition m ≡ true
      → first_that (implements m.name.name) modules ≡ Some place → slice_get modules place ≡ Some b
      → has (links_of modules b) t ≡ true → has (targets (walks modules) n) t ≡ true
  walk_right n m b place t e d first found h =
      let is : body_links modules m ≡ links_of modules b =
      ap (λ c. cond c (links_at modules m (first_that (implements m.name.name) modules)) []) d
      ∙ ap (links_at modules m) first ∙ ap (links_of modules) (get_or_from_slice_get modules place b m found) in
      ap (λ (ts : List ℕ). has ts t) (walks_at modules n m e) ∙ has-append (links_of modules m) (body_links modules m) t
      ∙ or_right (has (links_of modules m) t) (has (body_links modules m) t) (ap (λ (ts : List ℕ). has ts t) is ∙ h)

  -- a definition to which a pair goes has a body that starts
  goes_to : (n t : ℕ) (name : List ℕ) → has walk n ≡ true → has (targets (walks modules) n) t ≡ true
      → definition_of modules name ≡ Some t → is_named (filter_map (start modules) walk) name ≡ true
  goes_to n t name h g e =
      let f = found_at (defines name) modules t e in
      let both = and_parts (is_definition f.0) (same_name name f.0.name.name) f.2 in
      let b = starts_for modules fine t f.0 f.1 both.0 in
      let s = starts_of modules t b.0 b.1 in
      let there : has walk t ≡ true = reached t (facts.closed n t h g) in
      let among : Among (filter_map (start modules) walk) b.0 =
      among_filtered (start modules) walk t b.0 (has_among walk t there) b.1 in
      let is : s.m ≡ f.0 = same_at (slice_get modules t) s.m f.0 s.at f.1 in
      let same : b.0.name.name ≡ name = sym s.same ∙ ap (λ (m : Module). m.name.name) is
      ∙ sym ((bytes_decides name f.0.name.name).0 both.1) in
      any_among (λ (other : List ℕ). bytes_eq other name) (names_of (filter_map (start modules) walk)) b.0.name.name
      (among-map (λ (m : Module). m.name.name) (filter_map (start modules) walk) b.0 among)
      ((bytes_decides b.0.name.name name).1 same)
    where
      reached : (k : ℕ) → has later k ≡ true → has walk k ≡ true
      reached k i = elim (facts.new k i) [ inl none ↦ absurd (false≢true none) | inr some ↦ some ]

  -- what a body that starts imports
  pub body_reached : (n : ℕ) (b : Module) (x : Ident) → has walk n ≡ true → start modules n ≡ Some b
      → Among (imports_of b) x → (is_console x.name ≡ true) ⊎ (is_named (filter_map (start modules) walk) x.name ≡ true)
  body_reached n b x h e a = elim (fine.imports b x (s.place, s.found) a) [
    | inl c ↦ inl c
    | inr t ↦ inr (goes_to n t.0 x.name h (goes t.0 (linked b x t.0 a t.1)) t.1)
  ]
    where
      s : Starts modules n b
      s = starts_of modules n b e

      goes : (t : ℕ) → has (links_of modules b) t ≡ true → has (targets (walks modules) n) t ≡ true
      goes t l = elim s.how [
        | inl p ↦ walk_right n s.m b s.place t s.at p.0 p.1 s.found l
        | inr p ↦ walk_left n s.m t s.at (ap (λ (m : Module). has (links_of modules m) t) p.1 ∙ l)
      ]

  -- what the definition of its name imports
  pub definition_reached : (n : ℕ) (b d : Module) (x : Ident) → has walk n ≡ true → start modules n ≡ Some b
      → Among modules d → is_definition d ≡ true → b.name.name ≡ d.name.name → Among (imports_of d) x →
      (is_console x.name ≡ true) ⊎ (is_named (filter_map (start modules) walk) x.name ≡ true)
  definition_reached n b d x h e i is_so same a = elim (fine.imports d x i a) [
    | inl c ↦ inl c
    | inr t ↦ inr (goes_to n t.0 x.name h (goes t.0 (linked d x t.0 a t.1)) t.1)
  ]
    where
      s : Starts modules n b
      s = starts_of modules n b e

      -- the program module has no definition
      program_alone : is_definition s.m ≡ false → s.m ≡ b → ⊥
      program_alone f g =
          let w = fine.whole d i is_so in
          let v = found_at (implements d.name.name) modules w.0 w.1 in
          let both = and_parts (is_implementation v.0) (same_name d.name.name v.0.name.name) v.2 in
          let q : b ≡ v.0 = one_body s.place w.0 b v.0 s.found v.1 s.body (implementation_part v.0 both.0).0
          (same ∙ (bytes_decides d.name.name v.0.name.name).0 both.1) in
          no_body n s.m h s.at f (ap is_implementation (g ∙ q) ∙ both.0)

      goes : (t : ℕ) → has (links_of modules d) t ≡ true → has (targets (walks modules) n) t ≡ true
      goes t l = elim s.how [
        | inl p ↦ (let q = fine.apart i.0 n d s.m i.1 s.at (is_so ∙ sym p.0) (sym same ∙ sym s.same) in
            walk_left n d t (ap (slice_get modules) (sym q) ∙ i.1) l)
        | inr p ↦ absurd (program_alone p.0 p.1)
      ]
