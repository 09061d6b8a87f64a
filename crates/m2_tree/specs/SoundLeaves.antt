-- The tests of what a tree holds, below its expressions, types and statements.
use Rattle.std.proofs.Common.{Bool, ◌&&◌, nat_eq}
use Rattle.std.specs.Cmp.{first_so, second_so}
use Rattle.std.specs.Cmp.Lexicographic.{bytes_decides}
use denote.Enum.Bare.{same_true}
use Rattle.m2_tree.specs.declared.pos.Pos.{Pos}
use Rattle.m2_tree.specs.declared.name.Name.{Name}
use Rattle.m2_tree.specs.declared.name.Ident.{Ident}
use Rattle.m2_tree.specs.declared.text.Quoted.{Quoted}
use Rattle.m2_tree.specs.declared.expr.Operator.{Operator}
use Rattle.m2_tree.specs.declared.expr.Sign.{Sign}
use Rattle.m2_tree.specs.declared.expr.AddOp.{AddOp}
use Rattle.m2_tree.specs.declared.expr.MulOp.{MulOp}
use Rattle.m2_tree.specs.declared.expr.RelOp.{RelOp}
use Rattle.m2_tree.specs.contracts.expr.Sign as sign
use Rattle.m2_tree.specs.contracts.expr.AddOp as add_op
use Rattle.m2_tree.specs.contracts.expr.MulOp as mul_op
use Rattle.m2_tree.specs.contracts.expr.RelOp as rel_op
use Rattle.m2_tree.specs.contracts.pos.PosPartialEq.TheImpl as PosEq
use Rattle.m2_tree.specs.contracts.name.NamePartialEq.TheImpl as NameEq
use Rattle.m2_tree.specs.contracts.name.IdentPartialEq.TheImpl as IdentEq
use Rattle.m2_tree.specs.contracts.text.QuotedPartialEq.TheImpl as QuotedEq
use Rattle.m2_tree.specs.contracts.expr.SignPartialEq.TheImpl as SignEq
use Rattle.m2_tree.specs.contracts.expr.AddOpPartialEq.TheImpl as AddOpEq
use Rattle.m2_tree.specs.contracts.expr.MulOpPartialEq.TheImpl as MulOpEq
use Rattle.m2_tree.specs.contracts.expr.RelOpPartialEq.TheImpl as RelOpEq
use Rattle.m2_tree.specs.Sound.{Sound, number}

abbrev pub eq_pos : Pos → Pos → Bool
eq_pos = (PosEq.ghosts).eq

abbrev pub eq_name : Name → Name → Bool
eq_name = (NameEq.ghosts).eq

abbrev pub eq_ident : Ident → Ident → Bool
eq_ident = (IdentEq.ghosts).eq

abbrev pub eq_quoted : Quoted → Quoted → Bool
eq_quoted = (QuotedEq.ghosts).eq

abbrev pub eq_sign : Sign → Sign → Bool
eq_sign = (SignEq.ghosts).eq

abbrev pub eq_add : AddOp → AddOp → Bool
eq_add = (AddOpEq.ghosts).eq

abbrev pub eq_mul : MulOp → MulOp → Bool
eq_mul = (MulOpEq.ghosts).eq

abbrev pub eq_rel : RelOp → RelOp → Bool
eq_rel = (RelOpEq.ghosts).eq

abbrev pub eq_operator : {O : Type 0} → (O → O → Bool) → Operator O → Operator O → Bool
eq_operator E a b = E a.op b.op && eq_pos a.pos b.pos

pub pos : (a : Pos) → Sound eq_pos a
pos a b h =
    let p = number a.line b.line (first_so (nat_eq a.line b.line) (nat_eq a.col b.col) h) in
    let q = number a.col b.col (second_so (nat_eq a.line b.line) (nat_eq a.col b.col) h) in
    λ i. record { line = p i; col = q i }

pub quoted : (a : Quoted) → Sound eq_quoted a
quoted a b = (bytes_decides a b).0

pub name : (a : Name) → Sound eq_name a
name a b = (bytes_decides a b).0

pub ident : (a : Ident) → Sound eq_ident a
ident a b h =
    let p = name a.name b.name (first_so (eq_name a.name b.name) (eq_pos a.pos b.pos) h) in
    let q = pos a.pos b.pos (second_so (eq_name a.name b.name) (eq_pos a.pos b.pos) h) in
    λ i. record { name = p i; pos = q i }

pub operator : {O : Type 0} (E : O → O → Bool) → ((o : O) → Sound E o) → (a : Operator O)
    → Sound (eq_operator E) a
operator E s a b h =
    let p = s a.op b.op (first_so (E a.op b.op) (eq_pos a.pos b.pos) h) in
    let q = pos a.pos b.pos (second_so (E a.op b.op) (eq_pos a.pos b.pos) h) in
    λ i. record { op = p i; pos = q i }

pub sign_is : (a : Sign) → Sound eq_sign a
sign_is a b h = same_true sign.the_type tt a b h

pub add : (a : AddOp) → Sound eq_add a
add a b h = same_true add_op.the_type tt a b h

pub mul : (a : MulOp) → Sound eq_mul a
mul a b h = same_true mul_op.the_type tt a b h

pub rel : (a : RelOp) → Sound eq_rel a
rel a b h = same_true rel_op.the_type tt a b h
