-- The header dream386.h: what every text of the program includes. Each line ends in a line feed.
use Rattle.std.specs.Prelude.{ℕ, List, ◌++◌, codes}

-- A header in C99: the registers and flags as words of 32 bits, what is given (loads and stores of 1, 2 and 4 bytes, leaving
-- the function, and faults of the processor), and the words that are computed: the sign extensions, the parity of the lowest
-- byte, the lowest and the highest set bit, the arithmetic shift, the signed order, the high words of products, and quotients and
-- remainders of 64 bits by 32.
abbrev pub header_text : List ℕ
header_text =
    codes "#ifndef DREAM386_H\n"
    ++ codes "#define DREAM386_H\n"
    ++ codes "#include <stdint.h>\n"
    ++ codes "extern uint32_t eax, ecx, edx, ebx, esp, ebp, esi, edi;\n"
    ++ codes "extern uint32_t cf, pf, zf, sf, of, fsbase, gsbase;\n"
    ++ codes "uint32_t ld1(uint32_t a);\n"
    ++ codes "uint32_t ld2(uint32_t a);\n"
    ++ codes "uint32_t ld4(uint32_t a);\n"
    ++ codes "void st1(uint32_t a, uint32_t v);\n"
    ++ codes "void st2(uint32_t a, uint32_t v);\n"
    ++ codes "void st4(uint32_t a, uint32_t v);\n"
    ++ codes "void ext(uint32_t target);\n"
    ++ codes "void trap(uint32_t vector, uint32_t when);\n"
    ++ codes "static inline uint32_t sx1(uint32_t a) { return ((a & 0xffu) ^ 0x80u) - 0x80u; }\n"
    ++ codes "static inline uint32_t sx2(uint32_t a) { return ((a & 0xffffu) ^ 0x8000u) - 0x8000u; }\n"
    ++ codes "static inline uint32_t par(uint32_t a) { a &= 0xffu; a ^= a >> 4; a ^= a >> 2; a ^= a >> 1; return (a & 1u) ^ 1u; }\n"
    ++ codes "static inline uint32_t bsf(uint32_t a) { uint32_t n = 0u; while (n < 31u && !((a >> n) & 1u)) n++; return n; }\n"
    ++ codes "static inline uint32_t bsr(uint32_t a) { uint32_t n = 31u; while (n > 0u && !((a >> n) & 1u)) n--; return n; }\n"
    ++ codes "static inline uint32_t sar(uint32_t a, uint32_t n) { uint32_t m = 0u - (a >> 31); return ((a ^ m) >> (n > 31u ? 31u : n)) ^ m; }\n"
    ++ codes "static inline uint32_t lts(uint32_t a, uint32_t b) { return (a ^ 0x80000000u) < (b ^ 0x80000000u); }\n"
    ++ codes "static inline uint32_t mulhu(uint32_t a, uint32_t b) { return (uint32_t)(((uint64_t)a * b) >> 32); }\n"
    ++ codes "static inline uint32_t mulhs(uint32_t a, uint32_t b) { return mulhu(a, b) - (a >> 31) * b - (b >> 31) * a; }\n"
    ++ codes "static inline uint64_t wide(uint32_t h, uint32_t l) { return ((uint64_t)h << 32) | l; }\n"
    ++ codes "static inline uint64_t magw(uint32_t h, uint32_t l) { return (h >> 31) ? 0u - wide(h, l) : wide(h, l); }\n"
    ++ codes "static inline uint32_t mag(uint32_t a) { return (a >> 31) ? 0u - a : a; }\n"
    ++ codes "static inline uint32_t divubad(uint32_t h, uint32_t l, uint32_t d) { (void)l; return h >= d; }\n"
    ++ codes "static inline uint32_t divuq(uint32_t h, uint32_t l, uint32_t d) { return h >= d ? 0u : (uint32_t)(wide(h, l) / d); }\n"
    ++ codes "static inline uint32_t divur(uint32_t h, uint32_t l, uint32_t d) { return h >= d ? 0u : (uint32_t)(wide(h, l) % d); }\n"
    ++ codes "static inline uint32_t divsbad(uint32_t h, uint32_t l, uint32_t d) { return d == 0u || magw(h, l) / mag(d) > 0x7fffffffu + ((h ^ d) >> 31); }\n"
    ++ codes "static inline uint32_t divsq(uint32_t h, uint32_t l, uint32_t d) { uint32_t q; if (divsbad(h, l, d)) return 0u; q = (uint32_t)(magw(h, l) / mag(d)); return ((h ^ d) >> 31) ? 0u - q : q; }\n"
    ++ codes "static inline uint32_t divsr(uint32_t h, uint32_t l, uint32_t d) { uint32_t r; if (divsbad(h, l, d)) return 0u; r = (uint32_t)(magw(h, l) % mag(d)); return (h >> 31) ? 0u - r : r; }\n"
    ++ codes "#endif\n"
