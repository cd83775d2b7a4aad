-- `timestamp::encoding::encode` meets its contract: by the near second, or by the moment.
use Prim.Native.Nat.{◌<◌, ◌^◌}
use mathlib.Core.Path.{◌≡◌, sym, ap, subst, ◌∙◌}
use mathlib.Core.Option.{Option}
use lib.IntN.{ℤ}
use lib.Signed.{mag}
use mir.Syntax.{w64}
use mir.Val.{to_z, of_z}
use mir.ValLaws.{to_z-of_z}
use Rattle.refusal.specs.Outcome.{Outcome}
use Rattle.timestamp.specs.declared.fields.Fields.{Fields}
use Rattle.std.specs.Prelude as code
use Rattle.timestamp.specs.declared.moment.Moment.{Moment}
use Rattle.logical_type.specs.declared.types.TimeUnit.{TimeUnit}
use Rattle.timestamp.specs.Outcomes.{encoding}
use Rattle.timestamp.specs.Steps.{seconds_reached, IsNear, encoding_for}
use Rattle.timestamp.proofs.MomentLaws.{moment_for}
use Rattle.timestamp.proofs.encoding.encode.Goals as goal

-- what is told of near fields, of their second as it is passed on
module _ (f : Fields) (n : code.Option ℤ) (s : ℤ) (is : IsNear f n) (e : n ≡ code.Some s) (fits : mag s < 2 ^ 63) where
  near : IsNear f (code.Some s)
  near = subst (IsNear f) e is

  second_near : mag (to_z w64 (of_z w64 s)) < seconds_reached
  second_near = subst (λ (z : ℤ). mag z < seconds_reached) (sym (to_z-of_z w64 s (record { sfits = fits }))) near.1

  near_encoded : (u : Option TimeUnit) (o : Outcome ℤ) → o ≡ encoding_for u (Moment.Second (to_z w64 (of_z w64 s))) f.fraction → o ≡ encoding u f
  near_encoded u o p =
      moment_for u f (Moment.Second s) o near.0 (p ∙ ap (λ (z : ℤ). encoding_for u (Moment.Second z) f.fraction) (to_z-of_z w64 s (record { sfits = fits })))

pub encode_near-requires : goal.encode_near-requires
encode_near-requires c = search second_near

pub returns-in-Some : goal.returns-in-Some
returns-in-Some c = search near_encoded

pub returns-in-None : goal.returns-in-None
returns-in-None c = search moment_for
