-- What the crates above may cite, each module over those before it.

-- symbols: rings, powers, finite sums, polynomials in x and their zeros
pub mod Ring
pub mod Powers
pub mod Sums
pub mod Polynomials
pub mod Shifts
pub mod Roots
-- numbers: sums, weights, the pairing of the rows at a step
pub mod NumberSums
pub mod WeightLaws
pub mod Partners
-- functions on the curve: bounds on weights, values at points, monomials, interpolation
pub mod Bounds
pub mod OnCurve
pub mod Monomials
pub mod Interpolation
-- polynomials in z over them: leading monomials, zeros
pub mod Leads
pub mod Vanishing
