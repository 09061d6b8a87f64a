-- A store that grows while modules are linked.
use Rattle.std.proofs.Common.{◌≡◌, ℕ, zero, suc, List, [], ◌∷◌, ◌++◌, length, Option, Some, None, Result, Ok, Err, refl, sym, ap, subst, append_assoc, arith}
use Rattle.std.specs.Prelude.{slice_get, All}
use Rattle.std.specs.List.{filter_map, cons_option}
use Rattle.std.proofs.lemmas.List.{append-nil}
use Rattle.std.proofs.lemmas.List.Elements.{All-head, All-tail}
use Rattle.std.proofs.lemmas.Option.{none-some, same_Some}
use Rattle.wasm_tree.specs.declared.fault.WFault.{WFault}
use Rattle.wasm_tree.specs.declared.kinds.ValueType.{ValueType}
use Rattle.wasm_tree.specs.declared.kinds.Limits.{Limits}
use Rattle.wasm_tree.specs.declared.module.WModule.{WModule}
use Rattle.wasm_tree.specs.declared.store.Callee.{Callee}
use Rattle.wasm_tree.specs.declared.store.Instance.{Instance}
use Rattle.wasm_tree.specs.declared.store.Store.{Store}
use Rattle.wasm_tree.specs.Format.{◌>>=◌}
use Rattle.wasm_tree.specs.Validity.{context}
use Rattle.wasm_tree.specs.Linking.{each}
use Rattle.wasm_sound.specs.Sound.{Pairwise, IsFunctionAt, IsTableAt, IsMemoryAt, IsGlobalAt, IsInstance}
use Rattle.wasm_sound.proofs.Lists.{pairs_imply}

-- ---- one step after the other

pub ok_then : {A B : Type 0} (r : Result A WFault) (f : A → Result B WFault) (y : B) → (r >>= f) ≡ Ok y → (x : A)
    × (r ≡ Ok x) × (f x ≡ Ok y)
ok_then (Ok x) f y e = (x, refl, e)
ok_then (Err x) f y e = absurd (grind arith)

pub same_Ok : {A : Type 0} (x y : A) → ◌≡◌ {A = Result A WFault} (Ok x) (Ok y) → x ≡ y
same_Ok x y e = cc

-- what each step keeps up holds after all
pub each_keeps : {X S : Type 0} (step : X → S → Result S WFault) (Q : X → Type 0) (P : List X → S → Type 0)
    → ((done : List X) (x : X) (s t : S) → Q x → P done s → step x s ≡ Ok t → P (done ++ x ∷ []) t)
    → (done xs : List X) (s t : S) → All Q xs → P done s → each step xs s ≡ Ok t → P (done ++ xs) t
unfolding each
each_keeps {X} {S} step Q P keep done [] s t all h e =
    subst (λ (u : S). P (done ++ []) u) (same_Ok s t e) (subst (λ (l : List X). P l s) (sym (append-nil done)) h)
each_keeps {X} step Q P keep done (x ∷ xs) s t all h e =
    let first = ok_then (step x s) (each step xs) t e in
    let rest = each_keeps step Q P keep (done ++ x ∷ []) xs first.0 t (All-tail Q x xs all)
    (keep done x s first.0 (All-head Q x xs all) h first.1) first.2 in
    subst (λ (l : List X). P l t) (append_assoc done (x ∷ []) xs) rest

-- ---- an element at the end

pub get_front : {A : Type 0} (xs ys : List A) (k : ℕ) (x : A) → slice_get xs k ≡ Some x
    → slice_get (xs ++ ys) k ≡ Some x
get_front [] ys k x e = absurd (none-some x e)
get_front (y ∷ xs) ys zero x e = e
get_front (y ∷ xs) ys (suc k) x e = get_front xs ys k x e

pub get_seam : {A : Type 0} (xs : List A) (x : A) (ys : List A) → slice_get (xs ++ x ∷ ys) (length xs) ≡ Some x
get_seam [] x ys = refl
get_seam (y ∷ xs) x ys = get_seam xs x ys

-- what is found is what was there, or the new one
pub found_in_push : {A : Type 0} (P : A → Type 0) (xs : List A) (x : A)
    → ((k : ℕ) (y : A) → slice_get xs k ≡ Some y → P y) → P x → (k : ℕ) (y : A) → slice_get (xs ++ x ∷ []) k ≡ Some y
    → P y
found_in_push P [] x all one zero y e = subst P (same_Some x y e) one
found_in_push P [] x all one (suc k) y e = absurd (none-some y e)
found_in_push P (w ∷ xs) x all one zero y e = all zero y e
found_in_push P (w ∷ xs) x all one (suc k) y e = found_in_push P xs x (λ j z g. all (suc j) z g) one k y e

cons_append : {Y : Type 0} (o : Option Y) (a b w : List Y) → w ≡ a ++ b → cons_option o w ≡ cons_option o a ++ b
cons_append None a b w e = e
cons_append {Y} (Some z) a b w e = ap (λ (l : List Y). z ∷ l) e

pub filter_map-push : {X Y : Type 0} (f : X → Option Y) (xs : List X) (x : X)
    → filter_map f (xs ++ x ∷ []) ≡ filter_map f xs ++ filter_map f (x ∷ [])
filter_map-push f [] x = refl
filter_map-push f (y ∷ xs) x = cons_append (f y) (filter_map f xs) (filter_map f (x ∷ [])) (filter_map f (xs ++ x ∷ []))
    (filter_map-push f xs x)

-- ---- what is kept when a store grows

pub record Grows (old new : Store) : Type 0 where
  pub functions : (a : ℕ) (c : Callee) → slice_get old.functions a ≡ Some c → slice_get new.functions a ≡ Some c
  pub tables : (l : Limits) (a : ℕ) → IsTableAt old l a → IsTableAt new l a
  pub memories : (l : Limits) (a : ℕ) → IsMemoryAt old l a → IsMemoryAt new l a
  pub globals : (t : ValueType) (a : ℕ) → IsGlobalAt old t a → IsGlobalAt new t a

-- an instance of which these parts are there
pub record IsPart (modules : List WModule) (st : Store) (tree : WModule) (fs : List ℕ) (ts ms : List Limits)
    (gs : List ValueType) (i : Instance) : Type 0 where
  pub functions : Pairwise (IsFunctionAt modules st tree) fs i.functions
  pub tables : Pairwise (IsTableAt st) ts i.tables
  pub memories : Pairwise (IsMemoryAt st) ms i.memories
  pub globals : Pairwise (IsGlobalAt st) gs i.globals

function_grows : (modules : List WModule) (old new : Store) (tree : WModule) (i a : ℕ) → Grows old new
    → IsFunctionAt modules old tree i a → IsFunctionAt modules new tree i a
function_grows modules old new tree i a g h = (h.0, h.1, (h.2.0, g.functions a h.2.0 h.2.1, h.2.2))

pub part_grows : (modules : List WModule) (old new : Store) (tree : WModule) (fs : List ℕ) (ts ms : List Limits)
    (gs : List ValueType) (i : Instance) → Grows old new → IsPart modules old tree fs ts ms gs i
    → IsPart modules new tree fs ts ms gs i
part_grows modules old new tree fs ts ms gs i g h = record {
  functions = pairs_imply (IsFunctionAt modules old tree) (IsFunctionAt modules new tree) fs i.functions
      (λ x a k. function_grows modules old new tree x a g k) h.functions;
  tables = pairs_imply (IsTableAt old) (IsTableAt new) ts i.tables g.tables h.tables;
  memories = pairs_imply (IsMemoryAt old) (IsMemoryAt new) ms i.memories g.memories h.memories;
  globals = pairs_imply (IsGlobalAt old) (IsGlobalAt new) gs i.globals g.globals h.globals;
}

pub whole_instance : (modules : List WModule) (st : Store) (tree : WModule) (i : Instance)
    → IsPart modules st tree (context tree).functions (context tree).tables (context tree).memories
    (context tree).globals i → IsInstance modules st tree i
whole_instance modules st tree i h = record {
  functions = h.functions;
  tables = h.tables;
  memories =
      h.memories;
  globals = h.globals;
}

instance_part : (modules : List WModule) (st : Store) (tree : WModule) (i : Instance) → IsInstance modules st tree i
    → IsPart modules st tree (context tree).functions (context tree).tables (context tree).memories
    (context tree).globals i
instance_part modules st tree i h = record {
  functions = h.functions;
  tables = h.tables;
  memories =
      h.memories;
  globals = h.globals;
}

pub instance_grows : (modules : List WModule) (old new : Store) (tree : WModule) (i : Instance) → Grows old new
    → IsInstance modules old tree i → IsInstance modules new tree i
instance_grows modules old new tree i g h =
    whole_instance modules new tree i
    (part_grows modules old new tree (context tree).functions (context tree).tables (context tree).memories
    (context tree).globals i g (instance_part modules old tree i h))

pub instances_grow : (modules linked : List WModule) (old new : Store) → Grows old new → new.instances ≡ old.instances
    → Pairwise (IsInstance modules old) linked old.instances → Pairwise (IsInstance modules new) linked new.instances
instances_grow modules linked old new g same h =
    subst (λ (l : List Instance). Pairwise (IsInstance modules new) linked l) (sym same)
    (pairs_imply (IsInstance modules old) (IsInstance modules new) linked old.instances
    (λ tree i k. instance_grows modules old new tree i g k) h)
