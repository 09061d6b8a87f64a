-- What a WITH opens, and what is known inside.
use Rattle.std.proofs.Common.{Bool, ◌≡◌, ℕ, List, [], ◌∷◌, Option, Some, None, Result, refl, sym, ap, subst, ◌∙◌}
use Rattle.std.specs.Prelude.{cond}
use Rattle.std.specs.List.{fold}
use Rattle.std.specs.Option.{is_some}
use Rattle.m2_rule.specs.declared.breach.Breach.{Breach}
use Rattle.m2_tree.specs.declared.name.Ident.{Ident}
use Rattle.m2_tree.specs.declared.expr.Expr.{Expr}
use Rattle.m2_tree.specs.declared.expr.Expr.TheOpen as layer
use Rattle.m2_tree.specs.declared.expr.Selector.{Selector, Selector-F, out-Selector}
use Rattle.m2_tree.specs.declared.expr.Designator.{Designator, out-Designator}
use Rattle.m2_tree.specs.declared.expr.Item.{Item}
use Rattle.typed_tree.specs.declared.types.TypeNo.{TypeNo}
use Rattle.typed_tree.specs.declared.computed.Place.{Place}
use Rattle.typed_tree.specs.declared.shape.Shape.{Shape}
use Rattle.typed_tree.specs.declared.shape.Shape.TheVariants as shape
use Rattle.check_scope.specs.declared.meaningless.Meaningless.{Meaningless}
use Rattle.check_scope.specs.declared.scope.Scope.{Scope}
use Rattle.check_scope.specs.Elaborated.{Gathers}
use Rattle.check_value.specs.declared.computed.Designated.{Designated}
use Rattle.check_value.specs.declared.computed.Designated.TheVariants as designated
use Rattle.check_stmt_parts.specs.Simple.{known_of, element_in, element_of, led_by, component_behind, record_led_to, opened_type}
use Rattle.def_typing.specs.Shapes.{shape_at, IsMade}
use Rattle.def_typing.specs.Things.{Thing, AVariable, AnOpenArray, Headless, Standing, Known, Picks, Indexes, of_array, of_open}
use Rattle.typed_tree.specs.Types.{cardinal}
use Rattle.def_typing.specs.Expressions.{Denotes, named as denoted, Selected, whole, component, Selects, field, element}
use Rattle.def_typing.specs.Fields.{Leads, nowhere_else, by_field, by_index, LeadsToRecord, leads}
use Rattle.law_typing.specs.Judging.{Judges, Answers, means, refuses}
use Rattle.law_typing.specs.Exact.{IsThing, thing_value, thing_variable, thing_open, thing_type, thing_procedure, thing_nested, thing_standard, thing_module, Knows}
use Rattle.law_typing.proofs.Combining.{Lawful, Finds, finds, finds_headless, finds_nothing}
use Rattle.law_typing.proofs.Shaping.{array_of, array_is, fields_of, fields_is, one_made}
use Rattle.law_typing.proofs.Selecting.{named_finds, field_answers}

abbrev element_type : TypeNo → Shape → TypeNo
element_type t (shape.Array i e) = e
element_type t other = t

abbrev record_fields : List (List ℕ × TypeNo) → Shape → List (List ℕ × TypeNo)
record_fields fs (shape.Record hs) = hs
record_fields fs other = fs

abbrev variable_type : TypeNo → Thing → TypeNo
variable_type t (AVariable u) = u
variable_type t other = t

module _ (g : Gathers) (j : Judges g) (lawful : Lawful g j) (names : Ident → Standing) (exports : ℕ → Ident → Standing)
    (s : Scope g.Reported) (knows : Knows g j names exports s) where
  -- what is led to, if it is something
  data Leading (S : Thing → Type 0) : Option Designated → Type 0 where
    leading : (a : Designated) (x : Thing) → IsThing a x → S x → ((y : Thing) → S y → y ≡ x) → Leading S (Some a)
    leading_nowhere : ((y : Thing) → S y → (b : Bool) × (y ≡ Headless b)) → Leading S None

  leading_as : {S T : Thing → Type 0} {o : Option Designated} → ((x : Thing) → S x → T x) → ((x : Thing) → T x → S x)
      → Leading S o → Leading T o
  leading_as st ts (leading a x i m u) = leading a x i (st x m) (λ y t. u y (ts y t))
  leading_as st ts (leading_nowhere n) = leading_nowhere (λ y t. n y (ts y t))

  found_leads : {O : Breach → Type 0} {S : Thing → Type 0} {B : Breach → Type 0}
      {d : Result Designated (Meaningless g.Reported)} → Finds g j lawful O S B d → Leading S (known_of d)
  found_leads (finds a x i m u n) = leading a x i m u
  found_leads (finds_headless b r o m u n) = leading_nowhere (λ y z. (b, u y z))
  found_leads (finds_nothing r c n) = leading_nowhere (λ y m. absurd (n y m))

  answer_leads : {O : Breach → Type 0} {M : Thing → Type 0} {B : Breach → Type 0} {r : Result Designated g.Reported}
      → Answers g j O IsThing M B r → Leading M (known_of r)
  answer_leads (means a x i m u n) = leading a x i m u
  answer_leads (refuses r c n) = leading_nowhere (λ y m. absurd (n y m))

  -- fields
  abbrev ByField : Ident → (Thing → Type 0) → Thing → Type 0
  ByField name S y = (x : Thing) × S x × Picks s.types exports name x (Known y)

  abbrev ByIndex : (Thing → Type 0) → Thing → Type 0
  ByIndex S y = (x : Thing) × (i : TypeNo) × (t : TypeNo) × S x × Indexes s.types x i t × (y ≡ AVariable t)

  abbrev Stepped : Selector-F Expr Selector Designator Item → (Thing → Type 0) → Thing → Type 0
  Stepped (layer.Field at name) S y = ByField name S y
  Stepped (layer.Index at e) S y = ByIndex S y

  abbrev led_with : Selector-F Expr Selector Designator Item → Option Designated → Option Designated
  led_with z None = None
  led_with z (Some d) = led_by g s d z

  led_is : (o : Option Designated) (c : Selector) → led_with (out-Selector c) o ≡ component_behind g s o c
  led_is None c = refl
  led_is (Some d) c = refl

  not_array : {t i u : TypeNo} (z : Option Shape) → shape_at s.types t ≡ z
      → ((k e : TypeNo) → z ≡ Some (shape.Array k e) → ⊥) → Indexes s.types (AVariable t) i u → ⊥
  not_array z h n (of_array {i = i} {e = e} m) = n i e (sym h ∙ m)

  abbrev Elements : Thing → Thing → Type 0
  Elements x y = (i : TypeNo) × (t : TypeNo) × Indexes s.types x i t × (y ≡ AVariable t)

  no_elements : {x : Thing} → ((i t : TypeNo) → Indexes s.types x i t → ⊥) → Leading (Elements x) None
  no_elements n = leading_nowhere (λ y m. absurd (n m.0 m.1 m.2))

  array_element : {t i u e k : TypeNo} → IsMade s.types t (shape.Array k e) → Indexes s.types (AVariable t) i u → u ≡ e
  array_element {t = t} {e = e} h (of_array m) = ap (element_type e) (one_made s.types t m h)

  open_element : {t i u : TypeNo} → Indexes s.types (AnOpenArray t) i u → u ≡ t
  open_element of_open = refl

  array_leads : (t : TypeNo) (d : Place) (z : Option Shape) → shape_at s.types t ≡ z
      → Leading (Elements (AVariable t)) (element_in d (array_of z))
  array_leads t d None h = no_elements (λ i u m. not_array None h (λ k e q. absurd cc) m)
  array_leads t d (Some (shape.Array k e)) h =
      leading (designated.Variable e d) (AVariable e) (thing_variable e d) (k, e, of_array h, refl)
      (λ y m. m.3 ∙ ap AVariable (array_element h m.2))
  array_leads t d (Some (shape.Scalar r)) h = no_elements (λ i u m. not_array _ h (λ k e q. absurd cc) m)
  array_leads t d (Some shape.Set) h = no_elements (λ i u m. not_array _ h (λ k e q. absurd cc) m)
  array_leads t d (Some (shape.Record fs)) h = no_elements (λ i u m. not_array _ h (λ k e q. absurd cc) m)
  array_leads t d (Some (shape.Procedure p)) h = no_elements (λ i u m. not_array _ h (λ k e q. absurd cc) m)
  array_leads t d (Some (shape.Open u)) h = no_elements (λ i u m. not_array _ h (λ k e q. absurd cc) m)

  element_leads : (a : Designated) (x : Thing) → IsThing a x → Leading (Elements x) (element_of s.types a)
  element_leads _ _ (thing_variable t d) =
      subst (λ (o : Option (TypeNo × TypeNo)). Leading (Elements (AVariable t)) (element_in d o))
      (sym (array_is s.types t)) (array_leads t d (shape_at s.types t) refl)
  element_leads _ _ (thing_open t u) = leading _ (AVariable t) (thing_variable t _) (cardinal, t, of_open, refl)
      (λ y m. m.3 ∙ ap AVariable (open_element m.2))
  element_leads _ _ (thing_value i) = no_elements (λ i t q. elim q [ ])
  element_leads _ _ (thing_type t) = no_elements (λ i t q. elim q [ ])
  element_leads _ _ (thing_procedure p) = no_elements (λ i t q. elim q [ ])
  element_leads _ _ (thing_nested p) = no_elements (λ i t q. elim q [ ])
  element_leads _ _ (thing_standard p) = no_elements (λ i t q. elim q [ ])
  element_leads _ _ (thing_module k) = no_elements (λ i t q. elim q [ ])

  no_pick : {b : Bool} {name : Ident} {st : Standing} → Picks s.types exports name (Headless b) st → ⊥
  no_pick p = elim p [ ]

  no_index : {b : Bool} {i t : TypeNo} → Indexes s.types (Headless b) i t → ⊥
  no_index q = elim q [ ]

  steps : (S : Thing → Type 0) {o : Option Designated} (z : Selector-F Expr Selector Designator Item) → Leading S o
      → Leading (Stepped z S) (led_with z o)
  steps S (layer.Field at name) (leading a x i m u) =
      leading_as (λ y p. (x, m, p)) (λ y q. subst (λ (x : Thing). Picks s.types exports name x (Known y)) (u q.0 q.1)
      q.2) (answer_leads (field_answers g j lawful names exports s knows at name a x i))
  steps S (layer.Field at name) (leading_nowhere n) =
      leading_nowhere (λ y q. absurd (no_pick
      (subst (λ (x : Thing). Picks s.types exports name x (Known y)) (n q.0 q.1).1 q.2)))
  steps S (layer.Index at e) (leading a x i m u) =
      leading_as {T = ByIndex S} (λ y q. (x, q.0, q.1, m, q.2, q.3))
      (λ y q. (q.1, q.2, subst (λ (x : Thing). Indexes s.types x q.1 q.2) (u q.0 q.3) q.4, q.5)) (element_leads a x i)
  steps S (layer.Index at e) (leading_nowhere n) =
      leading_nowhere (λ y q. absurd (no_index (subst (λ (x : Thing). Indexes s.types x q.1 q.2) (n q.0 q.3).1 q.4)))

  abbrev L : Thing → List Selector → Thing → Type 0
  L = Leads s.types exports

  at_end : {x z : Thing} → L x [] z → x ≡ z
  at_end nowhere_else = refl

  join_leads : (S : Thing → Type 0) {c : Selector} {cs : List Selector} {y z : Thing}
      (q : Selector-F Expr Selector Designator Item) → out-Selector c ≡ q → Stepped q S y → L y cs z → (x : Thing) × S x
      × L x (c ∷ cs) z
  join_leads S (layer.Field at name) h (x, m, p) l = (x, m, by_field h p l)
  join_leads S {cs = cs} {z = z} (layer.Index at e) h (x, i, t, m, q, w) l =
      (x, m, by_index h q (subst (λ (y : Thing). L y cs z) w l))

  split_leads : (S : Thing → Type 0) {c : Selector} {cs : List Selector} {x z : Thing}
      (q : Selector-F Expr Selector Designator Item) → out-Selector c ≡ q → S x → L x (c ∷ cs) z → (y : Thing)
      × Stepped q S y × L y cs z
  split_leads S {cs = cs} {x = x} {z = z} q h m (by_field {y = y} w p l) =
      subst (λ (q : Selector-F Expr Selector Designator Item). (y : Thing) × Stepped q S y × L y cs z) (sym w ∙ h)
      (y, (x, m, p), l)
  split_leads S {cs = cs} {x = x} {z = z} q h m (by_index {i = i} {t = t} w p l) =
      subst (λ (q : Selector-F Expr Selector Designator Item). (y : Thing) × Stepped q S y × L y cs z) (sym w ∙ h)
      (AVariable t, (x, i, t, m, p, refl), l)

  selectors_lead : (cs : List Selector) (S : Thing → Type 0) {o : Option Designated} → Leading S o
      → Leading (λ z. (x : Thing) × S x × L x cs z) (fold (component_behind g s) o cs)
  selectors_lead [] S h = leading_as (λ x m. (x, m, nowhere_else)) (λ z q. subst S (at_end q.2) q.1) h
  selectors_lead (c ∷ cs) S {o = o} h = leading_as (λ z q. join_leads S (out-Selector c) refl q.1 q.2)
      (λ z q. split_leads S (out-Selector c) refl q.1 q.2)
      (selectors_lead cs (Stepped (out-Selector c) S)
      (subst (Leading (Stepped (out-Selector c) S)) (led_is o c) (steps S (out-Selector c) h)))

  -- ---- the type of the record

  data Opened (S : Thing → Type 0) : Option TypeNo → Type 0 where
    opened_record : (t : TypeNo) (fields : List (List ℕ × TypeNo)) → S (AVariable t)
        → IsMade s.types t (shape.Record fields) → ((u : TypeNo) → S (AVariable u) → u ≡ t) → Opened S (Some t)
    opened_nothing : ((u : TypeNo) (fields : List (List ℕ × TypeNo)) → S (AVariable u)
        → IsMade s.types u (shape.Record fields) → ⊥) → Opened S None

  variable_opens : (S : Thing → Type 0) (t : TypeNo) (z : Option Shape) → shape_at s.types t ≡ z → S (AVariable t)
      → ((u : TypeNo) → S (AVariable u) → u ≡ t) → Opened S (cond (is_some (fields_of z)) (Some t) None)
  variable_opens S t None h m u = opened_nothing
      (λ v fs q w. let e = sym h ∙ subst (λ (v : TypeNo). IsMade s.types v (shape.Record fs)) (u v q) w in absurd cc)
  variable_opens S t (Some (shape.Record hs)) h m u = opened_record t hs m h u
  variable_opens S t (Some (shape.Scalar r)) h m u =
      opened_nothing (λ v fs q w. let e = sym h
      ∙ subst (λ (v : TypeNo). IsMade s.types v (shape.Record fs)) (u v q) w in absurd cc)
  variable_opens S t (Some shape.Set) h m u =
      opened_nothing (λ v fs q w. let e = sym h
      ∙ subst (λ (v : TypeNo). IsMade s.types v (shape.Record fs)) (u v q) w in absurd cc)
  variable_opens S t (Some (shape.Array i e)) h m u =
      opened_nothing (λ v fs q w. let e = sym h
      ∙ subst (λ (v : TypeNo). IsMade s.types v (shape.Record fs)) (u v q) w in absurd cc)
  variable_opens S t (Some (shape.Procedure p)) h m u =
      opened_nothing (λ v fs q w. let e = sym h
      ∙ subst (λ (v : TypeNo). IsMade s.types v (shape.Record fs)) (u v q) w in absurd cc)
  variable_opens S t (Some (shape.Open e)) h m u =
      opened_nothing (λ v fs q w. let e = sym h
      ∙ subst (λ (v : TypeNo). IsMade s.types v (shape.Record fs)) (u v q) w in absurd cc)

  no_variable : (S : Thing → Type 0) {x : Thing} → ((y : Thing) → S y → y ≡ x) → ((u : TypeNo) → AVariable u ≡ x → ⊥)
      → Opened S None
  no_variable S u n = opened_nothing (λ v fs q w. n v (u (AVariable v) q))

  leading_opens : (S : Thing → Type 0) {o : Option Designated} → Leading S o → Opened S (record_led_to s.types o)
  leading_opens S (leading _ _ (thing_variable t d) m u) =
      subst (λ (o : Option (List (List ℕ × TypeNo))). Opened S (cond (is_some o) (Some t) None))
      (sym (fields_is s.types t)) (variable_opens S t (shape_at s.types t) refl m
      (λ v q. ap (variable_type t) (u (AVariable v) q)))
  leading_opens S (leading _ _ (thing_value i) m u) = no_variable S u (λ v e. absurd cc)
  leading_opens S (leading _ _ (thing_open t d) m u) = no_variable S u (λ v e. absurd cc)
  leading_opens S (leading _ _ (thing_type t) m u) = no_variable S u (λ v e. absurd cc)
  leading_opens S (leading _ _ (thing_procedure p) m u) = no_variable S u (λ v e. absurd cc)
  leading_opens S (leading _ _ (thing_nested p) m u) = no_variable S u (λ v e. absurd cc)
  leading_opens S (leading _ _ (thing_standard p) m u) = no_variable S u (λ v e. absurd cc)
  leading_opens S (leading _ _ (thing_module k) m u) = no_variable S u (λ v e. absurd cc)
  leading_opens S (leading_nowhere n) = opened_nothing (λ v fs q w. let e = (n (AVariable v) q).1 in absurd cc)

  abbrev LedFrom : Designator → Thing → Type 0
  LedFrom d z = (x : Thing) × (names (out-Designator d).name ≡ Known x) × L x (out-Designator d).selectors z

  -- what a WITH opens
  pub data Opens (d : Designator) : Option TypeNo → Type 0 where
    opens : (t : TypeNo) (fields : List (List ℕ × TypeNo)) → LeadsToRecord s.types exports names d t fields
        → ((u : TypeNo) (hs : List (List ℕ × TypeNo)) → LeadsToRecord s.types exports names d u hs → (u ≡ t)
        × (hs ≡ fields)) → Opens d (Some t)
    opens_nothing : ((u : TypeNo) (hs : List (List ℕ × TypeNo)) → LeadsToRecord s.types exports names d u hs → ⊥)
        → Opens d None

  same_fields : (t : TypeNo) {fs hs : List (List ℕ × TypeNo)} → IsMade s.types t (shape.Record fs)
      → IsMade s.types t (shape.Record hs) → hs ≡ fs
  same_fields t {fs = fs} m q = ap (record_fields fs) (one_made s.types t q m)

  record_parts : {d : Designator} {u : TypeNo} {hs : List (List ℕ × TypeNo)}
      → LeadsToRecord s.types exports names d u hs → LedFrom d (AVariable u) × IsMade s.types u (shape.Record hs)
  record_parts (leads {x = x} e l m) = ((x, e, l), m)

  opens_by : (d : Designator) {o : Option TypeNo} → Opened (LedFrom d) o → Opens d o
  opens_by d (opened_record t fields (x, e, l) m u) =
      opens t fields (leads e l m) (λ v hs q. let p = record_parts q in let w = u v p.0 in
      (w, same_fields t m (subst (λ (v : TypeNo). IsMade s.types v (shape.Record hs)) w p.1)))
  opens_by d (opened_nothing n) = opens_nothing (λ u hs q. let p = record_parts q in n u hs p.0 p.1)

  pub opened_is : (d : Designator) → Opens d (opened_type g s d)
  opened_is d = opens_by d (leading_opens (LedFrom d)
      (selectors_lead (out-Designator d).selectors (λ x. names (out-Designator d).name ≡ Known x)
      (found_leads (named_finds g j lawful names exports s knows (out-Designator d).name))))

  -- what a designator denotes, it leads to
  denoted_leads : {x y : Thing} {ss : List Selector} → Selected s.types names exports x ss y → L x ss y
  denoted_leads whole = nowhere_else
  denoted_leads (component {s = c} p r) = one_leads (out-Selector c) refl p (denoted_leads r)
    where
      one_leads : {c : Selector} {x y z : Thing} {ss : List Selector} (q : Selector-F Expr Selector Designator Item)
          → out-Selector c ≡ q → Selects s.types names exports x q y → L y ss z → L x (c ∷ ss) z
      one_leads _ h (field p) l = by_field h p l
      one_leads _ h (element i m a) l = by_index h i l

  pub denotes_record : {d : Designator} {t : TypeNo} {fields : List (List ℕ × TypeNo)}
      → Denotes s.types names exports d (AVariable t) → IsMade s.types t (shape.Record fields)
      → LeadsToRecord s.types exports names d t fields
  denotes_record (denoted e r) m = leads e (denoted_leads r) m

  -- there is one at most
  pub one_record : {d : Designator} (t u : TypeNo) {fs hs : List (List ℕ × TypeNo)}
      → LeadsToRecord s.types exports names d t fs → LeadsToRecord s.types exports names d u hs → hs ≡ fs
  one_record {d = d} t u {fs = fs} {hs = hs} l m = by (opened_is d)
    where
      by : {o : Option TypeNo} → Opens d o → hs ≡ fs
      by (opens v gs q z) = (z u hs m).1 ∙ sym (z t fs l).1
      by (opens_nothing n) = absurd (n t fs l)
