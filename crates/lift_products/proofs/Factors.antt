-- Factors by their numbers, and the numbers of a product.
use Rattle.std.specs.Prelude.{◌≡◌, ℕ, ◌*◌, ◌/◌, ◌%◌, ◌^◌, nat_eq, not, Bool, true, false}
use Rattle.dream_words.specs.Words.{low_part, sign_extended, high_product, high_signed_product, shifted_signed}
use Rattle.x86_inst.specs.declared.Size.{Size}
use Rattle.x86_inst.specs.declared.Size.TheVariants.{B, H, W}
use Rattle.x86_model.specs.Arithmetic.{product_overflows}
use Rattle.x86_model.specs.Operands.{bits_of}
use Rattle.c_syntax.specs.Words.{fn2_of}
use Rattle.lift_products.specs.Products.{high_function}

-- a value extended to 32 bits
abbrev pub factor_of : Bool → Size → ℕ → ℕ
factor_of true size x = sign_extended (bits_of size) x
factor_of false size x = x

-- the product of two factors, modulo 2^32
abbrev pub product_of : Bool → Size → ℕ → ℕ → ℕ
product_of signed size x y = low_part 32 (factor_of signed size x * factor_of signed size y)

-- the word of its high part
abbrev pub high_value : Bool → Size → ℕ → ℕ → ℕ
high_value signed B x y = product_of signed B x y / 2 ^ 8
high_value signed H x y = product_of signed H x y / 2 ^ 16
high_value signed W x y = fn2_of (high_function signed) (factor_of signed W x) (factor_of signed W y)

-- what CF and OF are set to, by the low and the high word
abbrev pub overflow_value : Bool → Size → ℕ → ℕ → Bool
overflow_value false size low high = not (nat_eq high 0)
overflow_value true B low high = not (nat_eq (sign_extended 8 low) low)
overflow_value true H low high = not (nat_eq (sign_extended 16 low) low)
overflow_value true W low high = not (nat_eq high (shifted_signed low 31))

-- the high part of the product, and whether CF and OF are set
abbrev pub high_part : Bool → Size → ℕ → ℕ → ℕ
high_part true size x y = high_signed_product (bits_of size) x y
high_part false size x y = high_product (bits_of size) x y

abbrev pub overflows : Bool → Size → ℕ → ℕ → Bool
overflows true size x y = product_overflows (bits_of size) x y
overflows false size x y = not (nat_eq (high_product (bits_of size) x y) 0)

-- the words have the product's low and high part, and its overflow
pub record IsProduct (signed : Bool) (size : Size) (x y : ℕ) : Type 0 where
  pub low : low_part (bits_of size) (product_of signed size x y) ≡ low_part (bits_of size) (x * y % 2 ^ bits_of size)
  pub high : low_part (bits_of size) (high_value signed size x y) ≡ low_part (bits_of size) (high_part signed size x y)
  pub overflow : overflow_value signed size (product_of signed size x y) (high_value signed size x y) ≡ overflows signed size x y
