-- Pieces of functions, with other numbers of modules.
use Rattle.std.proofs.Common.{◌≡◌, ℕ, ◌==◌, Bool, true, false, cond, if◌then◌else◌, List, [], ◌∷◌, map, fold, Option, Some, None, Result, Ok, Err, refl, sym, ap, ap₂, ◌∙◌, option_map, nat_lt}
use Rattle.std.specs.List.{position_or_len}
use Rattle.std.proofs.lemmas.List.{length-map}
use Rattle.std.proofs.lemmas.Bool.Decides.{same_from_decides, Decides-eqb}
use Rattle.m2_tree.specs.Names.{same_name}
use Rattle.m2_tree.specs.declared.pos.Pos.{Pos}
use Rattle.m2_rule.specs.declared.rule.Rule.{Rule}
use Rattle.typed_tree.specs.declared.types.Home.{Home}
use Rattle.typed_tree.specs.declared.types.Home.TheVariants.{Predeclared, Module}
use Rattle.typed_tree.specs.declared.types.TypeNo.{TypeNo}
use Rattle.typed_tree.specs.Types.{are_same, is_one_home, predeclared_type}
use Rattle.typed_tree.specs.Names.{find_name, place_of, enter_name}
use Rattle.check_scope.specs.Scopes.{or_outside, State}
use Rattle.check_scope.specs.declared.scope.Scope.{Scope}
use Rattle.check_scope.specs.Elaborated.{Gathers, both, ◌▷◌, reported_where, plain, of_sort, of_heading, of_value, of_sort_of_value, refusal_beside, ahead}
use Rattle.check_scope.specs.declared.meaningless.Meaningless.{Meaningless}
use Rattle.check_scope.specs.declared.meaningless.Meaningless.TheVariants.{Broken, Headless}
use Rattle.def_exchange.specs.Moved.{Exchange, moved_home, moved_type}
use Rattle.law_exchange_types.specs.Scopes.{moved_scope, moved_state, moved_state_of}
use Rattle.law_exchange_types.specs.Pieces.{map_ok, moved_entries}

-- ---- numbers and types

pub same_number : (x : Exchange) (m n : ℕ) → (x.there m == x.there n) ≡ (m == n)
same_number x m n =
    same_from_decides {P = m ≡ n} (x.there m == x.there n) (m == n) (
      (λ e. sym (x.back_there m) ∙ (ap x.back ((Decides-eqb (x.there m) (x.there n)).0 e) ∙ x.back_there n)),
      (λ e. (Decides-eqb (x.there m) (x.there n)).1 (ap x.there e)),
    )
    (Decides-eqb m n)

home_moves : (x : Exchange) (h k : Home) → is_one_home (moved_home x h) (moved_home x k) ≡ is_one_home h k
home_moves x Predeclared Predeclared = refl
home_moves x Predeclared (Module n) = refl
home_moves x (Module m) Predeclared = refl
home_moves x (Module m) (Module n) = same_number x m n

pub same_moves : (x : Exchange) (t u : TypeNo) → are_same (moved_type x t) (moved_type x u) ≡ are_same t u
same_moves x t u = simp (home_moves)

predeclared_home : (x : Exchange) (h : Home) → is_one_home (moved_home x h) Predeclared ≡ is_one_home h Predeclared
predeclared_home x Predeclared = refl
predeclared_home x (Module m) = refl

pub same_predeclared : (x : Exchange) (t : TypeNo) (n : ℕ)
    → are_same (moved_type x t) (predeclared_type n) ≡ are_same t (predeclared_type n)
same_predeclared x t n = simp (predeclared_home)

-- ---- choices

pub cond_moves : {A B : Type 0} (f : A → B) (b : Bool) (p q : A) → cond b (f p) (f q) ≡ f (cond b p q)
cond_moves f true p q = refl
cond_moves f false p q = refl

pub cond_in : {A B : Type 0} (f : A → B) (b : Bool) (p q : A) → f (cond b p q) ≡ cond b (f p) (f q)
cond_in f true p q = refl
cond_in f false p q = refl

pub if_in : {A B : Type 0} (f : A → B) (b : Bool) (p q : A) → f (if b then p else q) ≡ (if b then f p else f q)
if_in f true p q = refl
if_in f false p q = refl

pub outside_moves : {A B : Type 0} (f : A → B) (near far : Option A)
    → or_outside (option_map f near) (option_map f far) ≡ option_map f (or_outside near far)
outside_moves f (Some k) far = refl
outside_moves f None far = refl

pub cond_ok : {A B R : Type 0} (f : A → B) (b : Bool) (p q : Result A R)
    → map_ok f (cond b p q) ≡ cond b (map_ok f p) (map_ok f q)
cond_ok f true p q = refl
cond_ok f false p q = refl

pub cond_some : {A B : Type 0} (f : A → B) (b : Bool) (p q : Option A)
    → option_map f (cond b p q) ≡ cond b (option_map f p) (option_map f q)
cond_some f true p q = refl
cond_some f false p q = refl

pub cond_map : {A B : Type 0} (f : A → B) (b : Bool) (p q : List A)
    → map f (cond b p q) ≡ cond b (map f p) (map f q)
cond_map f true p q = refl
cond_map f false p q = refl

pub cond_entries : {A B : Type 0} (f : A → B) (b : Bool) (p q : List (List ℕ × A))
    → moved_entries f (cond b p q) ≡ cond b (moved_entries f p) (moved_entries f q)
cond_entries f true p q = refl
cond_entries f false p q = refl

pub cond_scope : {T : Type 0} (x : Exchange) (b : Bool) (p q : Scope T)
    → moved_scope x (cond b p q) ≡ cond b (moved_scope x p) (moved_scope x q)
cond_scope x true p q = refl
cond_scope x false p q = refl

pub cond_state : {A T : Type 0} (x : Exchange) (b : Bool) (p q : State A T)
    → moved_state x (cond b p q) ≡ cond b (moved_state x p) (moved_state x q)
cond_state x true p q = refl
cond_state x false p q = refl

pub cond_state_of : {A T : Type 0} (x : Exchange) (f : A → A) (b : Bool) (p q : State A T)
    → moved_state_of x f (cond b p q) ≡ cond b (moved_state_of x f p) (moved_state_of x f q)
cond_state_of x f true p q = refl
cond_state_of x f false p q = refl

pub if_some : {A B : Type 0} (f : A → B) (b : Bool) (p q : Option A)
    → option_map f (if b then p else q) ≡ (if b then option_map f p else option_map f q)
if_some f true p q = refl
if_some f false p q = refl

pub option_map_twice : {A B C : Type 0} (f : A → B) (h : B → C) (o : Option A)
    → option_map h (option_map f o) ≡ option_map (λ a. h (f a)) o
option_map_twice f h None = refl
option_map_twice f h (Some a) = refl

-- ---- what a part means

pub then_map : {A B C R : Type 0} (f : A → B) (r : Result A R) (k : B → Result C R)
    → (map_ok f r ▷ k) ≡ (r ▷ λ a. k (f a))
then_map f (Ok a) k = refl
then_map f (Err e) k = refl

pub map_then : {A B C R : Type 0} (f : B → C) (r : Result A R) (k : A → Result B R)
    → map_ok f (r ▷ k) ≡ (r ▷ λ a. map_ok f (k a))
map_then f (Ok a) k = refl
map_then f (Err e) k = refl

pub then_moves : {A B C D R : Type 0} (f : A → B) (h : C → D) (r : Result A R) (k : A → Result C R)
    (l : B → Result D R) → ((a : A) → l (f a) ≡ map_ok h (k a)) → (map_ok f r ▷ l) ≡ map_ok h (r ▷ k)
then_moves f h (Ok a) k l e = e a
then_moves f h (Err d) k l e = refl

pub where_moves : (g : Gathers) {A B : Type 0} (f : A → B) (b : Bool) (at : Pos) (r : Rule) (o : Result A g.Reported)
    → map_ok f (reported_where g b at r o) ≡ reported_where g b at r (map_ok f o)
where_moves g f true at r o = refl
where_moves g f false at r o = refl

pub both_moves : (g : Gathers) {A B C D : Type 0} (f : A → C) (h : B → D) (a : Result A g.Reported)
    (b : Result B g.Reported) → both g (map_ok f a) (map_ok h b) ≡ map_ok (λ p. (f p.0, h p.1)) (both g a b)
both_moves g f h (Ok a) (Ok b) = refl
both_moves g f h (Ok a) (Err e) = refl
both_moves g f h (Err e) (Ok b) = refl
both_moves g f h (Err e) (Err d) = refl

pub both_left : (g : Gathers) {A B C : Type 0} (f : A → C) (a : Result A g.Reported)
    (b : Result B g.Reported) → both g (map_ok f a) b ≡ map_ok (λ p. (f p.0, p.1)) (both g a b)
both_left g f (Ok a) (Ok b) = refl
both_left g f (Ok a) (Err e) = refl
both_left g f (Err e) (Ok b) = refl
both_left g f (Err e) (Err d) = refl

pub both_right : (g : Gathers) {A B D : Type 0} (h : B → D) (a : Result A g.Reported)
    (b : Result B g.Reported) → both g a (map_ok h b) ≡ map_ok (λ p. (p.0, h p.1)) (both g a b)
both_right g h (Ok a) (Ok b) = refl
both_right g h (Ok a) (Err e) = refl
both_right g h (Err e) (Ok b) = refl
both_right g h (Err e) (Err d) = refl

-- ---- lists

pub fold_moves : {A B C : Type 0} (m : A → B) (f : A → C → A) (k : B → C → B)
    → ((a : A) (c : C) → k (m a) c ≡ m (f a c)) → (a : A) (cs : List C) → fold k (m a) cs ≡ m (fold f a cs)
fold_moves m f k e a [] = refl
fold_moves {A} {B} {C} m f k e a (c ∷ cs) =
    ap (λ (b : B). fold k b cs) (e a c) ∙ fold_moves m f k e (f a c) cs

pub folds_move : {A B C D : Type 0} (m : A → B) (h : C → D) (f : A → C → A) (k : B → D → B)
    → ((a : A) (c : C) → k (m a) (h c) ≡ m (f a c)) → (a : A) (cs : List C)
    → fold k (m a) (map h cs) ≡ m (fold f a cs)
folds_move m h f k e a [] = refl
folds_move {A} {B} {C} {D} m h f k e a (c ∷ cs) =
    ap (λ (b : B). fold k b (map h cs)) (e a c) ∙ folds_move m h f k e (f a c) cs

pub find_moves : {V W : Type 0} (f : V → W) (name : List ℕ) (es : List (List ℕ × V))
    → find_name name (moved_entries f es) ≡ option_map f (find_name name es)
find_moves f name [] = refl
find_moves f name (e ∷ es) = simp (find_moves f name es, cond_some)

pub enter_moves : {V W : Type 0} (f : V → W) (name : List ℕ) (v : V) (es : List (List ℕ × V))
    → enter_name name (f v) (moved_entries f es) ≡ moved_entries f (enter_name name v es)
enter_moves f name v [] = refl
enter_moves f name v (e ∷ es) =
    ap (λ ts. cond (same_name name e.0) ((e.0, f v) ∷ moved_entries f es) ((e.0, f e.1) ∷ ts)) (enter_moves f name v es)
    ∙ cond_moves (moved_entries f) (same_name name e.0) ((e.0, v) ∷ es) (e ∷ enter_name name v es)

len_moves : {X Y : Type 0} (h : X → Y) (p : Y → Bool) (xs : List X)
    → position_or_len p (map h xs) ≡ position_or_len (λ a. p (h a)) xs
len_moves h p [] = refl
len_moves h p (a ∷ xs) = simp (len_moves h p xs)

pub place_moves : {V W : Type 0} (f : V → W) (name : List ℕ) (es : List (List ℕ × V))
    → place_of name (moved_entries f es) ≡ place_of name es
place_moves {V} {W} f name es =
    ap₂ (λ (p n : ℕ). cond (nat_lt p n) (Some p) None)
    (len_moves (λ (e : List ℕ × V). (e.0, f e.1)) (λ (e : List ℕ × W). same_name name e.0) es)
    (length-map es (λ (e : List ℕ × V). (e.0, f e.1)))

pub plain_moves : {A B R : Type 0} (f : A → B) (r : Result A R) → map_ok f (plain r) ≡ plain (map_ok f r)
plain_moves f (Ok a) = refl
plain_moves f (Err e) = refl

pub sort_moves : (g : Gathers) {A B : Type 0} (f : A → B) (at : Pos) (broken : Rule)
    (r : Result A (Meaningless g.Reported)) → of_sort g at broken (map_ok f r) ≡ map_ok f (of_sort g at broken r)
sort_moves g f at broken (Ok a) = refl
sort_moves g f at broken (Err (Broken e)) = refl
sort_moves g f at broken (Err (Headless nested e)) = refl

pub heading_moves : {A B R : Type 0} (f : A → B) (r : Result A (Meaningless R))
    → of_heading (map_ok f r) ≡ map_ok f (of_heading r)
heading_moves f (Ok a) = refl
heading_moves f (Err (Broken e)) = refl
heading_moves f (Err (Headless nested e)) = refl

pub value_moves : (g : Gathers) {A B : Type 0} (f : A → B) (at : Pos) (r : Result A (Meaningless g.Reported))
    → of_value g at (map_ok f r) ≡ map_ok f (of_value g at r)
value_moves g f at (Ok a) = refl
value_moves g f at (Err (Broken e)) = refl
value_moves g f at (Err (Headless true e)) = refl
value_moves g f at (Err (Headless false e)) = refl

pub sort_of_value_moves : (g : Gathers) {A B : Type 0} (f : A → B) (at : Pos) (broken : Rule)
    (r : Result A (Meaningless g.Reported))
    → of_sort_of_value g at broken (map_ok f r) ≡ map_ok f (of_sort_of_value g at broken r)
sort_of_value_moves g f at broken (Ok a) = refl
sort_of_value_moves g f at broken (Err (Broken e)) = refl
sort_of_value_moves g f at broken (Err (Headless true e)) = refl
sort_of_value_moves g f at broken (Err (Headless false e)) = refl

pub refusal_moves : (g : Gathers) {A B : Type 0} (f : A → B) (e : g.Reported) (rest : Result (Unit {0}) g.Reported)
    → map_ok f (refusal_beside g {A = A} e rest) ≡ refusal_beside g {A = B} e rest
refusal_moves g f e (Ok fine) = refl
refusal_moves g f e (Err d) = refl

pub ahead_moves : (g : Gathers) {A B C D : Type 0} (f : A → B) (h : C → D) (r : Result A g.Reported)
    (rest : Result (Unit {0}) g.Reported) (k : A → Result C g.Reported) (l : B → Result D g.Reported)
    → ((a : A) → l (f a) ≡ map_ok h (k a))
    → ahead g (map_ok f r) rest l ≡ map_ok h (ahead g r rest k)
ahead_moves g f h (Ok a) rest k l e = e a
ahead_moves g f h (Err d) rest k l e = sym (refusal_moves g h d rest)
