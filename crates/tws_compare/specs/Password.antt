-- Passwords as listings show them.
use Rattle.std.specs.Prelude.{◌≡◌, ℕ, List, length}
use Rattle.byte_output.specs.Bytes.{IsBytes}
use Rattle.tws_file.specs.Words.{password_text}

-- a listing shows this password as the text: four letters as they are, and other bytes as an x and their digits
pub record IsShown (text password : List ℕ) : Type 0 where
  pub text_is : text ≡ password_text password
  pub four : length password ≡ 4
  pub bytes : IsBytes password
