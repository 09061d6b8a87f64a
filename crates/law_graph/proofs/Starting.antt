-- The modules that start where a walk comes to nodes.
use Rattle.std.proofs.Common.{◌≡◌, ℕ, Bool, true, false, cond, ◌||◌, List, [], get_or, refl, sym, ap, ◌∙◌, inl, inr, Option, Some, None, option_map, ◌⊎◌}
use Rattle.std.specs.Prelude.{slice_get}
use Rattle.std.specs.Option.{unwrap_or}
use Rattle.std.specs.Cmp.Lexicographic.{bytes_decides}
use Rattle.std.proofs.lemmas.Bool.{false≢true, and_parts, or_parts, not-true, cases_Bool}
use Rattle.std.proofs.lemmas.Option.{none-some, same_Some, slice_get-map, get_or_from_slice_get, unwrap_or-slice_get}
use Rattle.m2_tree.specs.declared.decl.Module.{Module}
use Rattle.m2_tree.specs.declared.name.Ident.{Ident}
use Rattle.graph_walk.specs.Links.{has, targets}
use Rattle.m2_tree.specs.Names.{same_name}
use Rattle.m2_graph.specs.Imports.{imports_of, is_definition, is_program, is_implementation, implements, first_that, definition_of, links_of, links_at, body_links, walk_of, walks}
use Rattle.m2_graph.specs.Graph.{body_of}
use Rattle.law_graph.proofs.Lists.{bound, has_among, among_has, filtered_among, among_append_cases}
use Rattle.law_graph.proofs.Passing.{found_at}
use Rattle.law_graph.proofs.Fine.{AreFine}

pub same_at : {X : Type 0} (o : Option X) (x y : X) → o ≡ Some x → o ≡ Some y → x ≡ y
same_at o x y e g = same_Some x y (sym e ∙ g)

-- ---- the parts of a program

pub implementation_part : (m : Module) → is_implementation m ≡ true → (is_definition m ≡ false) × (is_program m ≡ false)
implementation_part m e = or_parts (is_definition m) (is_program m) (not-true (is_definition m || is_program m) e)

-- ---- what starts at a node

-- the module that starts where a walk comes to this node
abbrev pub start : List Module → ℕ → Option Module
start modules node = bound (body_of modules node (slice_get modules node)) (slice_get modules)

-- a body that starts at a node is that of the node's definition, or the node's module itself
pub record Starts (modules : List Module) (node : ℕ) (b : Module) : Type 0 where
  pub m : Module
  pub at : slice_get modules node ≡ Some m
  pub place : ℕ
  pub found : slice_get modules place ≡ Some b
  pub same : m.name.name ≡ b.name.name
  pub body : is_definition b ≡ false
  pub how : ((is_definition m ≡ true) × (first_that (implements m.name.name) modules ≡ Some place)
      × (is_implementation b ≡ true)) ⊎ ((is_definition m ≡ false) × (m ≡ b))

bound_some : {X Y : Type 0} (o : Option X) (f : X → Option Y) (y : Y) → bound o f ≡ Some y → (x : X) × (o ≡ Some x)
    × (f x ≡ Some y)
bound_some None f y e = absurd (none-some y e)
bound_some (Some x) f y e = (x, refl, e)

starts_definition : (modules : List Module) (node : ℕ) (b m : Module) (place : ℕ) → slice_get modules node ≡ Some m
    → slice_get modules place ≡ Some b → is_definition m ≡ true
    → first_that (implements m.name.name) modules ≡ Some place → Starts modules node b
starts_definition modules node b m place at found d e =
    let f = found_at (implements m.name.name) modules place e in
    let is : f.0 ≡ b = same_at (slice_get modules place) f.0 b f.1 found in
    let both = and_parts (is_implementation b) (same_name m.name.name b.name.name)
    (ap (implements m.name.name) (sym is) ∙ f.2) in
    record {
      m = m;
      at = at;
      place = place;
      found = found;
      same = (bytes_decides m.name.name b.name.name).0 both.1;
      body = (implementation_part b both.0).0;
      how = inl (d, e, both.0);
    }

starts_body : (modules : List Module) (node : ℕ) (b m : Module) → slice_get modules node ≡ Some m → m ≡ b
    → is_definition m ≡ false → Starts modules node b
starts_body modules node b m at is d = record {
  m = m;
  at = at;
  place = node;
  found = at ∙ ap Some is;
  same = ap (λ (x : Module). x.name.name) is;
  body = ap is_definition (sym is) ∙ d;
  how = inr (d, is);
}

pub starts_of : (modules : List Module) (node : ℕ) (b : Module) → start modules node ≡ Some b → Starts modules node b
starts_of modules node b e = let p = bound_some (body_of modules node (slice_get modules node)) (slice_get modules) b e
    in step p.0 p.2 (slice_get modules node) refl p.1
  where
    step : (place : ℕ) → slice_get modules place ≡ Some b → (o : Option Module) → slice_get modules node ≡ o
        → body_of modules node o ≡ Some place → Starts modules node b
    step place found None at g = absurd (none-some place g)
    step place found (Some m) at g = elim (cases_Bool (is_definition m)) [
      | inl d ↦ starts_definition modules node b m place at found d
          (ap (λ c. cond c (first_that (implements m.name.name) modules) (Some node)) (sym d) ∙ g)
      | inr d ↦ (let q : node ≡ place = same_Some node place
          (ap (λ c. cond c (first_that (implements m.name.name) modules) (Some node)) (sym d) ∙ g) in
          starts_body modules node b m at (same_at (slice_get modules node) m b at (ap (slice_get modules) q ∙ found))
          d)
    ]

-- a definition has a body that starts
pub starts_for : (modules : List Module) → AreFine modules → (node : ℕ) (m : Module) → slice_get modules node ≡ Some m
    → is_definition m ≡ true → (b : Module) × (start modules node ≡ Some b)
starts_for modules fine node m at d =
    let i = fine.whole m (node, at) d in
    let f = found_at (implements m.name.name) modules i.0 i.1 in (
      f.0,
      ap (λ (o : Option Module). bound (body_of modules node o) (slice_get modules)) at
          ∙ ap (λ c. bound (cond c (first_that (implements m.name.name) modules) (Some node)) (slice_get modules)) d
          ∙ ap (λ o. bound o (slice_get modules)) i.1 ∙ f.1,
    )

-- the body of a node is there
pub body_at : (modules : List Module) (node place : ℕ) → body_of modules node (slice_get modules node) ≡ Some place
    → (b : Module) × (slice_get modules place ≡ Some b)
body_at modules node place e = step (slice_get modules node) refl e
  where
    step : (o : Option Module) → slice_get modules node ≡ o → body_of modules node o ≡ Some place → (b : Module)
        × (slice_get modules place ≡ Some b)
    step None at g = absurd (none-some place g)
    step (Some m) at g = elim (cases_Bool (is_definition m)) [
      | inl d ↦ (let f = found_at (implements m.name.name) modules place
          (ap (λ c. cond c (first_that (implements m.name.name) modules) (Some node)) (sym d) ∙ g) in (f.0, f.1))
      | inr d ↦ (
        m,
        ap (slice_get modules) (sym
            (same_Some node place (ap (λ c. cond c (first_that (implements m.name.name) modules) (Some node)) (sym d)
            ∙ g))) ∙ at,
      )
    ]

-- ---- where walks go

pub walks_at : (modules : List Module) (node : ℕ) (m : Module) → slice_get modules node ≡ Some m
    → targets (walks modules) node ≡ walk_of modules m
walks_at modules node m e = get_or_from_slice_get (walks modules) node (walk_of modules m) []
    (slice_get-map (walk_of modules) modules node ∙ ap (λ (o : Option Module). option_map (walk_of modules) o) e)

no_walks : (modules : List Module) (node : ℕ) → slice_get modules node ≡ None → targets (walks modules) node ≡ []
no_walks modules node e = sym (unwrap_or-slice_get (walks modules) node [])
    ∙ ap (λ (o : Option (List ℕ)). unwrap_or o [])
    (slice_get-map (walk_of modules) modules node ∙ ap (λ (o : Option Module). option_map (walk_of modules) o) e)

-- a definition that is imported
abbrev pub IsNamed : List Module → ℕ → Type 0
IsNamed modules k = (name : List ℕ) × (definition_of modules name ≡ Some k)

linked_named : (modules : List Module) (m : Module) (k : ℕ) → has (links_of modules m) k ≡ true → IsNamed modules k
linked_named modules m k h = let f = filtered_among (λ (i : Ident). definition_of modules i.name) (imports_of m) k
    (has_among (links_of modules m) k h) in (f.0.name, f.2)

links_named : (modules : List Module) (m : Module) (o : Option ℕ) (k : ℕ) → has (links_at modules m o) k ≡ true
    → IsNamed modules k
links_named modules m None k h = absurd (false≢true h)
links_named modules m (Some i) k h = linked_named modules (get_or modules i m) k h

body_named : (modules : List Module) (m : Module) (c : Bool) (o : Option ℕ) (k : ℕ)
    → has (cond c (links_at modules m o) []) k ≡ true → IsNamed modules k
body_named modules m true o k h = links_named modules m o k h
body_named modules m false o k h = absurd (false≢true h)

pub walk_named : (modules : List Module) (from k : ℕ) → has (targets (walks modules) from) k ≡ true → IsNamed modules k
walk_named modules from k h = step (slice_get modules from) refl
  where
    step : (o : Option Module) → slice_get modules from ≡ o → IsNamed modules k
    step None e = absurd (false≢true (sym (ap (λ (ts : List ℕ). has ts k) (no_walks modules from e)) ∙ h))
    step (Some m) e = elim (among_append_cases (links_of modules m) (body_links modules m) k
        (has_among (walk_of modules m) k (ap (λ (ts : List ℕ). has ts k) (sym (walks_at modules from m e)) ∙ h))) [
          | inl a ↦ linked_named modules m k (among_has (links_of modules m) k a)
          | inr a ↦ body_named modules m (is_definition m) (first_that (implements m.name.name) modules) k
              (among_has (body_links modules m) k a)
        ]
