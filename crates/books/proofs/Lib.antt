mod Formulas
mod FormulaLaws
