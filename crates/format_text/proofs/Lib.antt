mod Lexemes
