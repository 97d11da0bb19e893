-- The resolution of values depends on which of them there are, and not on their order or number.
use Rattle.std.proofs.Common.{◌≡◌, ◌<◌, Bool, true, false, List, [], ◌∷◌, length, refl, ap, sym, ◌∙◌, arith, ℕ}
use Rattle.std.specs.List.{fold}
use Rattle.sim_logic.specs.declared.logic.Logic.{Logic}
use Rattle.sim_logic.specs.declared.logic.Logic.TheVariants.{U, X, Zero, One, Z, W, L, H, Dash}
use Rattle.sim_logic.specs.Resolution.{resolved}
use Rattle.sim_logic.specs.Tables.{resolution_table}
use Rattle.sim_logic.proofs.TableLaws.{resolution_table-assoc, resolution_table-comm}
use Rattle.sim_store_nets.specs.Tallies.{IsTally, is_positive, resolution_by, resolution_of, times}

-- ---- one more value

with_u : (u x d z o w l h : Bool) → resolution_table U (resolution_of u x d z o w l h) ≡ resolution_of true x d z o w l h
with_u true x d z o w l h = refl
with_u false true d z o w l h = refl
with_u false false true z o w l h = refl
with_u false false false true true w l h = refl
with_u false false false true false w l h = refl
with_u false false false false true w l h = refl
with_u false false false false false true l h = refl
with_u false false false false false false true true = refl
with_u false false false false false false true false = refl
with_u false false false false false false false true = refl
with_u false false false false false false false false = refl

with_x : (u x d z o w l h : Bool) → resolution_table X (resolution_of u x d z o w l h) ≡ resolution_of u true d z o w l h
with_x true x d z o w l h = refl
with_x false true d z o w l h = refl
with_x false false true z o w l h = refl
with_x false false false true true w l h = refl
with_x false false false true false w l h = refl
with_x false false false false true w l h = refl
with_x false false false false false true l h = refl
with_x false false false false false false true true = refl
with_x false false false false false false true false = refl
with_x false false false false false false false true = refl
with_x false false false false false false false false = refl

with_dash : (u x d z o w l h : Bool) → resolution_table Dash (resolution_of u x d z o w l h) ≡ resolution_of u x true z o w l h
with_dash true x d z o w l h = refl
with_dash false true d z o w l h = refl
with_dash false false true z o w l h = refl
with_dash false false false true true w l h = refl
with_dash false false false true false w l h = refl
with_dash false false false false true w l h = refl
with_dash false false false false false true l h = refl
with_dash false false false false false false true true = refl
with_dash false false false false false false true false = refl
with_dash false false false false false false false true = refl
with_dash false false false false false false false false = refl

with_zero : (u x d z o w l h : Bool) → resolution_table Zero (resolution_of u x d z o w l h) ≡ resolution_of u x d true o w l h
with_zero true x d z o w l h = refl
with_zero false true d z o w l h = refl
with_zero false false true z o w l h = refl
with_zero false false false true true w l h = refl
with_zero false false false true false w l h = refl
with_zero false false false false true w l h = refl
with_zero false false false false false true l h = refl
with_zero false false false false false false true true = refl
with_zero false false false false false false true false = refl
with_zero false false false false false false false true = refl
with_zero false false false false false false false false = refl

with_one : (u x d z o w l h : Bool) → resolution_table One (resolution_of u x d z o w l h) ≡ resolution_of u x d z true w l h
with_one true x d z o w l h = refl
with_one false true d z o w l h = refl
with_one false false true z o w l h = refl
with_one false false false true true w l h = refl
with_one false false false true false w l h = refl
with_one false false false false true w l h = refl
with_one false false false false false true l h = refl
with_one false false false false false false true true = refl
with_one false false false false false false true false = refl
with_one false false false false false false false true = refl
with_one false false false false false false false false = refl

with_w : (u x d z o w l h : Bool) → resolution_table W (resolution_of u x d z o w l h) ≡ resolution_of u x d z o true l h
with_w true x d z o w l h = refl
with_w false true d z o w l h = refl
with_w false false true z o w l h = refl
with_w false false false true true w l h = refl
with_w false false false true false w l h = refl
with_w false false false false true w l h = refl
with_w false false false false false true l h = refl
with_w false false false false false false true true = refl
with_w false false false false false false true false = refl
with_w false false false false false false false true = refl
with_w false false false false false false false false = refl

with_l : (u x d z o w l h : Bool) → resolution_table L (resolution_of u x d z o w l h) ≡ resolution_of u x d z o w true h
with_l true x d z o w l h = refl
with_l false true d z o w l h = refl
with_l false false true z o w l h = refl
with_l false false false true true w l h = refl
with_l false false false true false w l h = refl
with_l false false false false true w l h = refl
with_l false false false false false true l h = refl
with_l false false false false false false true true = refl
with_l false false false false false false true false = refl
with_l false false false false false false false true = refl
with_l false false false false false false false false = refl

with_h : (u x d z o w l h : Bool) → resolution_table H (resolution_of u x d z o w l h) ≡ resolution_of u x d z o w l true
with_h true x d z o w l h = refl
with_h false true d z o w l h = refl
with_h false false true z o w l h = refl
with_h false false false true true w l h = refl
with_h false false false true false w l h = refl
with_h false false false false true w l h = refl
with_h false false false false false true l h = refl
with_h false false false false false false true true = refl
with_h false false false false false false true false = refl
with_h false false false false false false false true = refl
with_h false false false false false false false false = refl

with_z : (u x d z o w l h : Bool) → resolution_table Z (resolution_of u x d z o w l h) ≡ resolution_of u x d z o w l h
with_z true x d z o w l h = refl
with_z false true d z o w l h = refl
with_z false false true z o w l h = refl
with_z false false false true true w l h = refl
with_z false false false true false w l h = refl
with_z false false false false true w l h = refl
with_z false false false false false true l h = refl
with_z false false false false false false true true = refl
with_z false false false false false false true false = refl
with_z false false false false false false false true = refl
with_z false false false false false false false false = refl

-- the resolution of these values, by which of them there are
abbrev resolution_in : List Logic → Logic
resolution_in vs =
    resolution_of (is_positive (times U vs)) (is_positive (times X vs)) (is_positive (times Dash vs)) (is_positive (times Zero vs))
    (is_positive (times One vs)) (is_positive (times W vs)) (is_positive (times L vs)) (is_positive (times H vs))

one_more : (v : Logic) (vs : List Logic) → resolution_table v (resolution_in vs) ≡ resolution_in (v ∷ vs)
one_more U vs =
    with_u (is_positive (times U vs)) (is_positive (times X vs)) (is_positive (times Dash vs)) (is_positive (times Zero vs))
    (is_positive (times One vs)) (is_positive (times W vs)) (is_positive (times L vs)) (is_positive (times H vs))
one_more X vs =
    with_x (is_positive (times U vs)) (is_positive (times X vs)) (is_positive (times Dash vs)) (is_positive (times Zero vs))
    (is_positive (times One vs)) (is_positive (times W vs)) (is_positive (times L vs)) (is_positive (times H vs))
one_more Dash vs =
    with_dash (is_positive (times U vs)) (is_positive (times X vs)) (is_positive (times Dash vs)) (is_positive (times Zero vs))
    (is_positive (times One vs)) (is_positive (times W vs)) (is_positive (times L vs)) (is_positive (times H vs))
one_more Zero vs =
    with_zero (is_positive (times U vs)) (is_positive (times X vs)) (is_positive (times Dash vs)) (is_positive (times Zero vs))
    (is_positive (times One vs)) (is_positive (times W vs)) (is_positive (times L vs)) (is_positive (times H vs))
one_more One vs =
    with_one (is_positive (times U vs)) (is_positive (times X vs)) (is_positive (times Dash vs)) (is_positive (times Zero vs))
    (is_positive (times One vs)) (is_positive (times W vs)) (is_positive (times L vs)) (is_positive (times H vs))
one_more W vs =
    with_w (is_positive (times U vs)) (is_positive (times X vs)) (is_positive (times Dash vs)) (is_positive (times Zero vs))
    (is_positive (times One vs)) (is_positive (times W vs)) (is_positive (times L vs)) (is_positive (times H vs))
one_more L vs =
    with_l (is_positive (times U vs)) (is_positive (times X vs)) (is_positive (times Dash vs)) (is_positive (times Zero vs))
    (is_positive (times One vs)) (is_positive (times W vs)) (is_positive (times L vs)) (is_positive (times H vs))
one_more H vs =
    with_h (is_positive (times U vs)) (is_positive (times X vs)) (is_positive (times Dash vs)) (is_positive (times Zero vs))
    (is_positive (times One vs)) (is_positive (times W vs)) (is_positive (times L vs)) (is_positive (times H vs))
one_more Z vs =
    with_z (is_positive (times U vs)) (is_positive (times X vs)) (is_positive (times Dash vs)) (is_positive (times Zero vs))
    (is_positive (times One vs)) (is_positive (times W vs)) (is_positive (times L vs)) (is_positive (times H vs))

-- ---- many values

values-folded : (a : Logic) (vs : List Logic) → fold resolution_table (resolution_table Z a) vs ≡ resolution_table a (resolution_in vs)
values-folded a [] = resolution_table-comm Z a
values-folded a (v ∷ vs) =
    ap (λ w. fold resolution_table w vs) (resolution_table-assoc Z a v)
    ∙ (values-folded (resolution_table a v) vs
    ∙ (resolution_table-assoc a v (resolution_in vs) ∙ ap (resolution_table a) (one_more v vs)))

pub resolved-from : (vs : List Logic) → resolution_in vs ≡ fold resolution_table Z vs
resolved-from vs = sym (values-folded Z vs ∙ one_more Z vs)

pub resolved-by : (vs : List Logic) (counts : List ℕ) → IsTally vs counts → resolution_by counts ≡ fold resolution_table Z vs
resolved-by vs counts i =
    rw (i.counted U, i.counted X, i.counted Dash, i.counted Zero, i.counted One, i.counted W, i.counted L, i.counted H) (resolved-from vs)

-- two or more values are folded
pub resolved-many : (vs : List Logic) → 1 < length vs → resolved vs ≡ fold resolution_table Z vs
resolved-many [] many = absurd (omega (arith, many))
resolved-many (v ∷ []) many = absurd (omega (arith, many))
resolved-many (v ∷ (w ∷ vs)) many = refl
