use Rattle.std.proofs.Common.{◌≡◌, Bool, true, false, leb, length, Some, refl}
use Rattle.text.specs.Frames.{kept}
use Rattle.console.specs.Lines.{Unaffected, line_fault}

unaffected : Unaffected
unaffected bytes = by (leb (length bytes) 80) refl
  where
    by : (t : Bool) → leb (length bytes) 80 ≡ t → line_fault (kept bytes) ≡ line_fault (Some bytes)
    by true e = simp e
    by false e = simp e
